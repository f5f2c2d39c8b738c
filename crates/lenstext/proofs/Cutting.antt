-- Lines as the units of a file and the places where they end, one line more at a time.
use Rattle.std.proofs.Common.{◌≡◌, ℕ, suc, ◌+◌, ◌-◌, ◌<◌, ◌≤◌, Bool, true, false, List, [], ◌∷◌, ◌++◌, length, drop, refl, ap, sym, ◌∙◌, arith, length-append, length-drop, append_assoc, append-nil}
use Rattle.std.specs.Prelude.{is_some, Option, Some, None, Ok, Err, if◌then◌else◌, nat_lt, slice_range}
use Rattle.std.proofs.lemmas.Bool.{ltb-false, false≢true}
use Rattle.std.proofs.lemmas.List.{length-take-le, at_drop_all}
use Rattle.lensmodel.specs.declared.fault.TextFault.{TextFault}
use Rattle.lensmodel.specs.declared.fault.TextFault.TheVariants.{OddByte, Surrogate, LongLine}
use Rattle.lensmodel.specs.Files.Causes.{or_first, ok_unless}
use Rattle.lensmodel.specs.Files.TextLines.{has_lone, units, lines, line_fault, first_line_fault, is_odd, text}
use Rattle.lenstext.specs.Cuts.{cut, Fits}

-- where the line behind some places begins
pub next_start : ℕ → List ℕ → ℕ
next_start from [] = from
next_start from (end ∷ ends) = next_start (suc end) ends

cut-push : (from : ℕ) (us ends : List ℕ) (end : ℕ) → cut from us (ends ++ end ∷ []) ≡ cut from us ends ++ slice_range us (next_start from ends) end ∷ []
unfolding next_start
cut-push from us [] end = refl
cut-push from us (e ∷ ends) end = ap (λ (ls : List (List ℕ)). slice_range us from e ∷ ls) (cut-push (suc e) us ends end)

next_start-push : (from : ℕ) (ends : List ℕ) (end : ℕ) → next_start from (ends ++ end ∷ []) ≡ suc end
unfolding next_start
next_start-push from [] end = refl
next_start-push from (e ∷ ends) end = next_start-push (suc e) ends end

Fits-push : (from room : ℕ) (ends : List ℕ) (end : ℕ) → Fits from room ends → next_start from ends ≤ end → end ≤ next_start from ends + 4096 → end ≤ room → Fits from room (ends ++ end ∷ [])
unfolding next_start
Fits-push from room [] end f a b c = (a, b, c, tt)
Fits-push from room (e ∷ ends) end f a b c = (f.0, f.1, f.2, Fits-push (suc e) room ends end f.3 a b c)

not_none : (b : Bool) (a : TextFault) → (if b then Some a else None) ≡ None → b ≡ false
not_none true a e = absurd (false≢true (sym (ap is_some e)))
not_none false a e = refl

neither : (a b : Bool) (x y : TextFault) → (if a then Some x else if b then Some y else None) ≡ None → b ≡ false
neither true b x y e = absurd (false≢true (sym (ap is_some e)))
neither false b x y e = not_none b y e

-- a line without fault isn't too long
short : (n : ℕ) (line : List ℕ) → line_fault n line ≡ None → length line ≤ 4096
short n line e = ltb-false 4096 (length line) (neither (has_lone false line) (nat_lt 4096 (length line)) (Surrogate n) (LongLine n) e)

-- the lines up to a place are cut, and none of them has a fault
pub record Kept (us ends : List ℕ) (start : ℕ) : Type 0 where
  pub shape : Fits 0 (length us) ends
  pub next : next_start 0 ends ≡ start
  pub whole : cut 0 us ends ++ lines (drop start us) ≡ lines us
  pub faults : first_line_fault (length ends + 1) (lines (drop start us)) ≡ first_line_fault 1 (lines us)
  pub count : length ends ≤ start
  pub few : length ends ≤ length us
  pub near : start ≤ length us + 1

pub Kept-start : (us : List ℕ) → Kept us [] 0
unfolding next_start
Kept-start us = record { shape = tt; next = refl; whole = refl; faults = refl; count = omega arith; few = omega arith; near = omega arith }

sound_line : (n : ℕ) (line : List ℕ) (ls : List (List ℕ)) → line_fault n line ≡ None → first_line_fault n (line ∷ ls) ≡ first_line_fault (suc n) ls
sound_line n line ls e = ap (λ (f : Option TextFault). or_first f (first_line_fault (suc n) ls)) e

pub Kept-push : (us ends : List ℕ) (start : ℕ) (more : List ℕ) (end : ℕ) → Kept us ends start → start < length us → start ≤ end → end ≤ length us → more ≡ ends ++ end ∷ [] → lines (drop start us) ≡ slice_range us start end ∷ lines (drop (end + 1) us) → line_fault (length ends + 1) (slice_range us start end) ≡ None → Kept us more (end + 1)
Kept-push us ends start more end k some after within ended first sound =
    let line = slice_range us start end in
    let size : length line ≡ end - start = length-take-le (end - start) (drop start us) (omega (arith, length-drop start us)) in
    let s = short (length ends + 1) line sound in
    let next = k.next in
    let rest = lines (drop (end + 1) us) in
    let n : length more ≡ length ends + 1 = ap length ended ∙ length-append ends (end ∷ []) in
    let count = k.count in
    let few = k.few in
    record {
      shape = rw ended (Fits-push 0 (length us) ends end k.shape (omega arith) (omega arith) within);
      next = ap (next_start 0) ended ∙ next_start-push 0 ends end ∙ omega arith;
      whole =
          ap (λ (es : List ℕ). cut 0 us es ++ rest) ended
          ∙ ap (λ (ls : List (List ℕ)). ls ++ rest) (cut-push 0 us ends end)
          ∙ ap (λ (from : ℕ). (cut 0 us ends ++ slice_range us from end ∷ []) ++ rest) next
          ∙ append_assoc (cut 0 us ends) (line ∷ []) rest
          ∙ ap (λ (ls : List (List ℕ)). cut 0 us ends ++ ls) (sym first)
          ∙ k.whole;
      faults =
          ap (λ (m : ℕ). first_line_fault m rest) (let m : length more + 1 ≡ suc (length ends + 1) = omega arith in m)
          ∙ sym (sound_line (length ends + 1) line rest sound)
          ∙ ap (first_line_fault (length ends + 1)) (sym first)
          ∙ k.faults;
      count = omega arith;
      few = omega arith;
      near = omega arith;
    }

-- a fault behind the lines that are kept is that of the text
pub Kept-fault : (us ends : List ℕ) (start : ℕ) (f : TextFault) → Kept us ends start → first_line_fault (length ends + 1) (lines (drop start us)) ≡ Some f → first_line_fault 1 (lines us) ≡ Some f
Kept-fault us ends start f k e = sym k.faults ∙ e

-- the fault of the line that begins at a place is the first behind the lines that are kept
pub Kept-fault_of : (us ends : List ℕ) (start end : ℕ) (f : TextFault) → Kept us ends start → lines (drop start us) ≡ slice_range us start end ∷ lines (drop (end + 1) us) → line_fault (length ends + 1) (slice_range us start end) ≡ Some f → first_line_fault 1 (lines us) ≡ Some f
Kept-fault_of us ends start end f k first e =
    let rest = lines (drop (end + 1) us) in
    Kept-fault us ends start f k
    (ap (first_line_fault (length ends + 1)) first ∙ ap (λ (o : Option TextFault). or_first o (first_line_fault (suc (length ends + 1)) rest)) e)

lines-none : lines [] ≡ []
unfolding lines
lines-none = refl

behind : (us : List ℕ) (start : ℕ) → length us ≤ start → lines (drop start us) ≡ []
behind us start h = at_drop_all lines us start h ∙ lines-none

pub Kept-whole : (us ends : List ℕ) (start : ℕ) → Kept us ends start → length us ≤ start → cut 0 us ends ≡ lines us
Kept-whole us ends start k h =
    sym (append-nil (cut 0 us ends)) ∙ ap (λ (ls : List (List ℕ)). cut 0 us ends ++ ls) (sym (behind us start h)) ∙ k.whole

pub Kept-sound : (us ends : List ℕ) (start : ℕ) → Kept us ends start → length us ≤ start → first_line_fault 1 (lines us) ≡ None
Kept-sound us ends start k h = sym k.faults ∙ ap (first_line_fault (length ends + 1)) (behind us start h)

-- the text of bytes from the lines of its units
pub text-ok : (bytes us : List ℕ) (ls : List (List ℕ)) → is_odd bytes ≡ false → us ≡ units bytes → first_line_fault 1 (lines us) ≡ None → ls ≡ lines us → text bytes ≡ Ok ls
unfolding text
text-ok bytes us ls even is sound whole =
    ap (λ (b : Bool). if b then Err OddByte else ok_unless (first_line_fault 1 (lines (units bytes))) (lines (units bytes))) even
    ∙ ap (λ (u : List ℕ). ok_unless (first_line_fault 1 (lines u)) (lines u)) (sym is)
    ∙ ap (λ (f : Option TextFault). ok_unless f (lines us)) sound
    ∙ ap Ok (sym whole)

pub text-fault : (bytes us : List ℕ) (f : TextFault) → is_odd bytes ≡ false → us ≡ units bytes → first_line_fault 1 (lines us) ≡ Some f → text bytes ≡ Err f
unfolding text
text-fault bytes us f even is found =
    ap (λ (b : Bool). if b then Err OddByte else ok_unless (first_line_fault 1 (lines (units bytes))) (lines (units bytes))) even
    ∙ ap (λ (u : List ℕ). ok_unless (first_line_fault 1 (lines u)) (lines u)) (sym is)
    ∙ ap (λ (o : Option TextFault). ok_unless o (lines us)) found

pub text-odd : (bytes : List ℕ) (f : TextFault) → is_odd bytes ≡ true → f ≡ OddByte → text bytes ≡ Err f
unfolding text
text-odd bytes f odd e =
    ap (λ (b : Bool). if b then Err OddByte else ok_unless (first_line_fault 1 (lines (units bytes))) (lines (units bytes))) odd ∙ ap Err (sym e)
