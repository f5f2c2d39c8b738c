-- The lines of a book, as they are gathered and written.
use Rattle.std.proofs.Common.{◌≡◌, ℕ, List, [], ◌++◌, length, map, Option, ap, subst, ◌∙◌}
use Rattle.std.specs.List.{concat}
use Rattle.lensio.specs.Taken.{Takes, TakesFront}
use Rattle.lensmodel.specs.Texts.Book.{glasses_line, glass_line, glass_lines, book_text}
use Rattle.lensmodel.specs.declared.glass.Glass.{Glass}
use Rattle.lensrun.specs.Gathered.{Gathers}
use Rattle.lensrun.proofs.Gathering.{front-more, gathers-trans, gathers-front, gathers-put, gathers-put-front}
use Rattle.lensrun.proofs.Parts.{glass_lines-are}

module _ (book : List Glass) (n : ℕ) (piece head : List ℕ) (empty : piece ≡ []) (count : n ≡ length book) (line : head ≡ glasses_line n) where
  -- the lines behind the first
  rest : List ℕ
  rest = concat (map glass_line book)

  text-is : (piece ++ head) ++ rest ≡ book_text book
  unfolding rest
  text-is =
      ap (λ p. (p ++ head) ++ rest) empty ∙ ap (λ h. h ++ rest) (line ∙ ap glasses_line count) ∙ ap (λ l. glasses_line (length book) ++ l) (glass_lines-are book)

  -- a front of the first line
  pub book_front : (a b : Option (List ℕ)) → TakesFront a b (piece ++ head) → TakesFront a b (book_text book)
  unfolding rest
  book_front a b t = subst (TakesFront a b) text-is (front-more a b (piece ++ head) rest t)

  -- the first line, and a front of the others
  pub book_lines_front : (a b c : Option (List ℕ)) (held : List ℕ) → Gathers a b held (piece ++ head) → TakesFront b c (held ++ concat (map glass_line book))
      → TakesFront a c (book_text book)
  unfolding rest
  book_lines_front a b c held g t = subst (TakesFront a c) text-is (gathers-front a b c held (piece ++ head) rest g t)

  module _ (a b c d : Option (List ℕ)) (held last : List ℕ) (g : Gathers a b held (piece ++ head)) (h : Gathers b c last (held ++ concat (map glass_line book))) where
    -- all lines are gathered or written
    gathered : Gathers a c last (book_text book)
    unfolding rest
    gathered = subst (Gathers a c last) text-is (gathers-trans a b c held last (piece ++ head) rest g h)

    pub book_taken : Takes c d last → Takes a d (book_text book)
    book_taken t = gathers-put a c d last (book_text book) gathered t

    pub book_put_front : TakesFront c d last → TakesFront a d (book_text book)
    book_put_front t = gathers-put-front a c d last (book_text book) gathered t
