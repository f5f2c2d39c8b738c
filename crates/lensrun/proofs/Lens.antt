-- The lines of a lens, as they are gathered and written.
use Rattle.std.proofs.Common.{◌≡◌, ℕ, zero, suc, ◌+◌, ◌<◌, List, [], ◌∷◌, ◌++◌, length, map, take, get_or, Option, Some, refl, sym, ap, subst, ◌∙◌, append_assoc, arith}
use Rattle.std.specs.Prelude.{slice_get, slice_index_or}
use Rattle.std.specs.List.{concat}
use Rattle.std.proofs.lemmas.Option.{get_or_from_slice_get, slice_get_read}
use Rattle.lensio.specs.Taken.{Takes, TakesFront}
use Rattle.lensmodel.specs.Setup.Values.{plane}
use Rattle.lensmodel.specs.Texts.Lens as texts
use Rattle.lensmodel.specs.declared.prescription.Prescription.{Prescription}
use Rattle.lensmodel.specs.declared.surface.Surface.{Surface}
use Rattle.lensrun.specs.Gathered.{Gathers}
use Rattle.lensrun.specs.Numbered.{numbered, surface_text, surface_lines, wave_lines, unused_line}
use Rattle.lensrun.proofs.Gathering.{front-more, gathers-trans, gathers-front, gathers-put, gathers-put-front, lines-next, lines-front}
use Rattle.lensrun.proofs.Parts.{surface_lines-are, wave_lines-are, unused_lines-are}

-- the line of the thing at k, of things numbered from i on
pub numbered-get : {A : Type 0} (line : ℕ → A → List ℕ) (i k n : ℕ) (xs : List A) (x : A) → slice_get xs k ≡ Some x → n ≡ i + k
    → slice_get (numbered line i xs) k ≡ Some (line n x)
numbered-get line i k n [] x at e = absurd (cc at)
numbered-get line i zero n (y ∷ xs) x at e = let same : n ≡ i = omega (arith, e) in cc (at, same)
numbered-get line i (suc k) n (y ∷ xs) x at e = numbered-get line (suc i) k n xs x at (omega (arith, e))

pub length-numbered : {A : Type 0} (line : ℕ → A → List ℕ) (i : ℕ) (xs : List A) → length (numbered line i xs) ≡ length xs
length-numbered line i [] = refl
length-numbered line i (x ∷ xs) = ap suc (length-numbered line (suc i) xs)

-- ---- the surfaces
pub surface-at : (items slice : List Surface) (j : ℕ) (f : Surface) → slice ≡ items → j < length items → f ≡ get_or slice j f → slice_get items j ≡ Some f
surface-at items slice j f e within is =
    subst (λ l. slice_get l j ≡ Some f) e (slice_get_read slice (length slice) j f refl (subst (λ l. j < length l) (sym e) within) is)

module _ (surfaces : List Surface) (j : ℕ) (f : Surface) (own more : List ℕ) (at : slice_get surfaces j ≡ Some f)
    (line : own ≡ texts.surface_line j (slice_index_or surfaces j plane)) (rest : more ≡ texts.asphere_lines f.kind j f) where
  text-is : slice_get (surface_lines surfaces) j ≡ Some (own ++ more)
  text-is =
      numbered-get surface_text 0 j j surfaces f at (omega arith)
      ∙ ap Some (sym (ap (λ o. o ++ more) (line ∙ ap (texts.surface_line j) (get_or_from_slice_get surfaces j f plane at))
      ∙ ap (λ m. texts.surface_line j f ++ m) rest))

  module _ (a b c : Option (List ℕ)) (p q t : List ℕ) (g : Gathers a b p (t ++ concat (take j (surface_lines surfaces)))) where
    -- the surface's own line, or a front of it
    own-front : TakesFront b c (p ++ own) → TakesFront b c (p ++ (own ++ more))
    own-front h = subst (TakesFront b c) (append_assoc p own more) (front-more b c (p ++ own) more h)

    pub surface_front : TakesFront b c (p ++ own) → TakesFront a c (t ++ concat (surface_lines surfaces))
    surface_front h = lines-front a b c p t (surface_lines surfaces) j (own ++ more) text-is g (own-front h)

    -- and the lines behind it
    pub asphere_front : (d : Option (List ℕ)) → Gathers b c q (p ++ own) → TakesFront c d (q ++ more) → TakesFront a d (t ++ concat (surface_lines surfaces))
    asphere_front d h k =
        lines-front a b d p t (surface_lines surfaces) j (own ++ more) text-is g
        (subst (TakesFront b d) (append_assoc p own more) (gathers-front b c d q (p ++ own) more h k))

    pub surface_next : (d : Option (List ℕ)) (r : List ℕ) → Gathers b c q (p ++ own) → Gathers c d r (q ++ more)
        → Gathers a d r (t ++ concat (take (j + 1) (surface_lines surfaces)))
    surface_next d r h k =
        lines-next a b d p r t (surface_lines surfaces) j (own ++ more) text-is g
        (subst (Gathers b d r) (append_assoc p own more) (gathers-trans b c d q r (p ++ own) more h k))

-- ---- the report
module _ (lens : Prescription) (unused : List (List ℕ × ℕ)) (piece head : List ℕ) (empty : piece ≡ []) (line : head ≡ texts.lens_line lens) where
  surfaces : List ℕ
  surfaces = concat (surface_lines lens.surfaces.items)

  waves : List ℕ
  waves = concat (wave_lines lens.waves.items)

  tags : List ℕ
  tags = concat (map unused_line unused)

  text-whole : (piece ++ head) ++ surfaces ++ waves ++ tags ≡ texts.lens_text lens unused
  unfolding surfaces waves tags texts.lens_text
  text-whole =
      ap (λ l. (l ++ head) ++ surfaces ++ waves ++ tags) empty
      ∙ ap (λ l. l ++ surfaces ++ waves ++ tags) line
      ∙ ap (λ l. texts.lens_line lens ++ l ++ waves ++ tags) (surface_lines-are 0 lens.surfaces.items)
      ∙ ap (λ l. texts.lens_line lens ++ texts.surface_lines 0 lens.surfaces.items ++ l ++ tags) (wave_lines-are 1 lens.waves.items)
      ∙ ap (λ l. texts.lens_line lens ++ texts.surface_lines 0 lens.surfaces.items ++ texts.wave_lines 1 lens.waves.items ++ l) (unused_lines-are unused)

  pub head_front : (a b : Option (List ℕ)) → TakesFront a b (piece ++ head) → TakesFront a b (texts.lens_text lens unused)
  unfolding surfaces waves tags
  head_front a b t =
      subst (TakesFront a b) text-whole
      (front-more a b _ tags (front-more a b _ waves (front-more a b _ surfaces t)))

  module _ (a b c : Option (List ℕ)) (p : List ℕ) (g : Gathers a b p (piece ++ head)) where
    pub surfaces_front : TakesFront b c (p ++ concat (surface_lines lens.surfaces.items)) → TakesFront a c (texts.lens_text lens unused)
    unfolding surfaces waves tags
    surfaces_front t =
        subst (TakesFront a c) text-whole (front-more a c _ tags (front-more a c _ waves (gathers-front a b c p (piece ++ head) surfaces g t)))

    module _ (q : List ℕ) (h : Gathers b c q (p ++ concat (surface_lines lens.surfaces.items))) (d : Option (List ℕ)) where
      with_surfaces : Gathers a c q ((piece ++ head) ++ surfaces)
      unfolding surfaces
      with_surfaces = gathers-trans a b c p q (piece ++ head) surfaces g h

      pub waves_front : TakesFront c d (q ++ concat (wave_lines lens.waves.items)) → TakesFront a d (texts.lens_text lens unused)
      unfolding surfaces waves tags
      waves_front t =
          subst (TakesFront a d) text-whole (front-more a d _ tags (gathers-front a c d q ((piece ++ head) ++ surfaces) waves with_surfaces t))

      module _ (r : List ℕ) (k : Gathers c d r (q ++ concat (wave_lines lens.waves.items))) (e : Option (List ℕ)) where
        with_waves : Gathers a d r ((piece ++ head) ++ surfaces ++ waves)
        unfolding surfaces waves
        with_waves = gathers-trans a c d q r ((piece ++ head) ++ surfaces) waves with_surfaces k

        pub tags_front : TakesFront d e (r ++ concat (map unused_line unused)) → TakesFront a e (texts.lens_text lens unused)
        unfolding surfaces waves tags
        tags_front t = subst (TakesFront a e) text-whole (gathers-front a d e r ((piece ++ head) ++ surfaces ++ waves) tags with_waves t)

        module _ (l : List ℕ) (m : Gathers d e l (r ++ concat (map unused_line unused))) (f : Option (List ℕ)) where
          with_tags : Gathers a e l (texts.lens_text lens unused)
          unfolding surfaces waves tags
          with_tags = subst (Gathers a e l) text-whole (gathers-trans a d e r l ((piece ++ head) ++ surfaces ++ waves) tags with_waves m)

          pub lens_taken : Takes e f l → Takes a f (texts.lens_text lens unused)
          lens_taken t = gathers-put a e f l (texts.lens_text lens unused) with_tags t

          pub lens_put_front : TakesFront e f l → TakesFront a f (texts.lens_text lens unused)
          lens_put_front t = gathers-put-front a e f l (texts.lens_text lens unused) with_tags t
