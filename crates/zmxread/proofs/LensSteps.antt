-- One more line of a whole lens.
use Rattle.std.specs.Prelude.{◌≡◌, ℕ, true, false, List, [], ◌∷◌, ◌++◌, length, codes, Some, None, refl}
use Rattle.std.proofs.Common.{ap, sym, ◌∙◌}
use Rattle.lensmodel.specs.Files.Lens.{surface_of, primary_in}
use Rattle.lensmodel.specs.Files.LensFaults.{is_SURF, is_read, index_of, offence, MODE_fault, SURF_fault, PWAV_fault, indexed_fault}
use Rattle.lensmodel.specs.Files.Records.{Words, same_word, has_tag, word_at, number_or_0}
use Rattle.lensmodel.specs.Setup.Values.{plane}
use Rattle.zmxread.specs.Lens.{with_WAVM}
use Rattle.zmxread.specs.Readers.{IsAt, stop_among}
use Rattle.zmxread.specs.declared.walk.Reader.{Reader}
use Rattle.zmxread.proofs.Blocks.{each_block-begins}
use Rattle.zmxread.proofs.Lasts.{HasNone, last_of-new, last_of-old}
use Rattle.zmxread.proofs.Marks.{marks-SURF, marks-other}
use Rattle.zmxread.proofs.Steps.{index-known, count-so-far, surfaces-old}
use Rattle.zmxread.proofs.TagWords.{other_tag}
use Rattle.zmxread.proofs.Unused.{unused-read}
use Rattle.zmxread.proofs.Waves.{waves-new, waves-old}

-- the line's one tag
no : (tag : List ℕ) (l : Words) → has_tag tag l ≡ true → (b : List ℕ) → same_word tag b ≡ false → has_tag b l ≡ false
no tag l h b e = other_tag tag b l h e

-- a line of a tag that is none of those of the fields
none_of : (tag : List ℕ) (l : Words) → has_tag tag l ≡ true
    → same_word tag (codes "SURF") ≡ false
    → same_word tag (codes "TYPE") ≡ false
    → same_word tag (codes "CURV") ≡ false
    → same_word tag (codes "CONI") ≡ false
    → same_word tag (codes "DISZ") ≡ false
    → same_word tag (codes "GLAS") ≡ false
    → same_word tag (codes "DIAM") ≡ false
    → same_word tag (codes "PARM") ≡ false
    → HasNone l
none_of tag l h surf type curv coni disz glas diam parm = record {
  surf = no tag l h (codes "SURF") surf;
  type = no tag l h (codes "TYPE") type;
  curv = no tag l h (codes "CURV") curv;
  coni = no tag l h (codes "CONI") coni;
  disz = no tag l h (codes "DISZ") disz;
  glas = no tag l h (codes "GLAS") glas;
  diam = no tag l h (codes "DIAM") diam;
  parm = no tag l h (codes "PARM") parm;
}

-- ---- MODE
pub MODE-offence : (n : ℕ) (before : List Words) (l : Words) → has_tag (codes "MODE") l ≡ true → offence n before l ≡ MODE_fault n l
MODE-offence n before l h = rw h refl

pub MODE-step : (n : ℕ) (before : List Words) (l : Words) (r : Reader) → has_tag (codes "MODE") l ≡ true → IsAt before r → MODE_fault n l ≡ None
    → (offence n before l ≡ None) × IsAt (before ++ l ∷ []) r
MODE-step n before l r h at f =
    let o = no (codes "MODE") l h in
    let read : is_read before l ≡ true = rw h refl in (
      MODE-offence n before l h ∙ f,
      record {
        surfaces = at.surfaces ∙ sym (surfaces-old before l (none_of (codes "MODE") l h refl refl refl refl refl refl refl refl));
        waves = at.waves ∙ sym (waves-old before l (o (codes "WAVM") refl));
        primary = at.primary ∙ ap primary_in (sym (last_of-old (codes "PWAV") before l (o (codes "PWAV") refl)));
        stop = at.stop ∙ ap stop_among (sym (marks-other before l (o (codes "SURF") refl) (o (codes "STOP") refl)));
        unused = at.unused ∙ sym (unused-read before l read);
      },
    )

-- ---- SURF
pub SURF-offence : (n : ℕ) (before : List Words) (l : Words) (r : Reader) → has_tag (codes "SURF") l ≡ true → IsAt before r
    → offence n before l ≡ SURF_fault n (length r.lens.surfaces.items) l
SURF-offence n before l r h at =
    let m : has_tag (codes "MODE") l ≡ false = no (codes "SURF") l h (codes "MODE") refl in
    rw (m, h) (ap (λ k. SURF_fault n k l) (sym (count-so-far before r at)))

pub SURF-step : (n : ℕ) (before : List Words) (l : Words) (r next : Reader) → has_tag (codes "SURF") l ≡ true → IsAt before r
    → SURF_fault n (length r.lens.surfaces.items) l ≡ None → next.lens.surfaces.items ≡ r.lens.surfaces.items ++ plane ∷ []
    → next.lens.waves ≡ r.lens.waves → next.lens.primary ≡ r.lens.primary → next.stop ≡ r.stop → next.unused ≡ r.unused
    → (offence n before l ≡ None) × IsAt (before ++ l ∷ []) next
SURF-step n before l r next h at f s w p t u =
    let o = no (codes "SURF") l h in
    let m : has_tag (codes "MODE") l ≡ false = o (codes "MODE") refl in
    let read : is_read before l ≡ true = rw (m, h) refl in (
      SURF-offence n before l r h at ∙ f,
      record {
        surfaces = s ∙ ap (λ fs. fs ++ plane ∷ []) at.surfaces ∙ sym (each_block-begins is_SURF surface_of before l h);
        waves = ap (λ v. v.items) w ∙ at.waves ∙ sym (waves-old before l (o (codes "WAVM") refl));
        primary = p ∙ at.primary ∙ ap primary_in (sym (last_of-old (codes "PWAV") before l (o (codes "PWAV") refl)));
        stop = t ∙ at.stop ∙ ap stop_among (sym (marks-SURF before l h));
        unused = u ∙ at.unused ∙ sym (unused-read before l read);
      },
    )

-- ---- WAVM
pub WAVM-offence : (n : ℕ) (before : List Words) (l : Words) → has_tag (codes "WAVM") l ≡ true → offence n before l ≡ indexed_fault n l
WAVM-offence n before l h =
    let m : has_tag (codes "MODE") l ≡ false = no (codes "WAVM") l h (codes "MODE") refl in
    let s : has_tag (codes "SURF") l ≡ false = no (codes "WAVM") l h (codes "SURF") refl in
    rw (m, s, h) refl

pub WAVM-step : (n : ℕ) (before : List Words) (l : Words) (r next : Reader) → has_tag (codes "WAVM") l ≡ true → IsAt before r
    → indexed_fault n l ≡ None → next.lens.waves.items ≡ with_WAVM l r.lens.waves.items
    → next.lens.surfaces ≡ r.lens.surfaces → next.lens.primary ≡ r.lens.primary → next.stop ≡ r.stop → next.unused ≡ r.unused
    → (offence n before l ≡ None) × IsAt (before ++ l ∷ []) next
WAVM-step n before l r next h at f w s p t u =
    let o = no (codes "WAVM") l h in
    let m : has_tag (codes "MODE") l ≡ false = o (codes "MODE") refl in
    let f_surf : has_tag (codes "SURF") l ≡ false = o (codes "SURF") refl in
    let read : is_read before l ≡ true = rw (m, f_surf, h) refl in (
      WAVM-offence n before l h ∙ f,
      record {
        surfaces = ap (λ v. v.items) s ∙ at.surfaces ∙ sym (surfaces-old before l (none_of (codes "WAVM") l h refl refl refl refl refl refl refl refl));
        waves = w ∙ ap (with_WAVM l) at.waves ∙ sym (waves-new before l (number_or_0 (index_of (word_at 1 l))) h (index-known n l f));
        primary = p ∙ at.primary ∙ ap primary_in (sym (last_of-old (codes "PWAV") before l (o (codes "PWAV") refl)));
        stop = t ∙ at.stop ∙ ap stop_among (sym (marks-other before l f_surf (o (codes "STOP") refl)));
        unused = u ∙ at.unused ∙ sym (unused-read before l read);
      },
    )

-- ---- PWAV
pub PWAV-offence : (n : ℕ) (before : List Words) (l : Words) → has_tag (codes "PWAV") l ≡ true → offence n before l ≡ PWAV_fault n l
PWAV-offence n before l h =
    let m : has_tag (codes "MODE") l ≡ false = no (codes "PWAV") l h (codes "MODE") refl in
    let s : has_tag (codes "SURF") l ≡ false = no (codes "PWAV") l h (codes "SURF") refl in
    let w : has_tag (codes "WAVM") l ≡ false = no (codes "PWAV") l h (codes "WAVM") refl in
    rw (m, s, w, h) refl

pub PWAV-step : (n : ℕ) (before : List Words) (l : Words) (r next : Reader) → has_tag (codes "PWAV") l ≡ true → IsAt before r
    → PWAV_fault n l ≡ None → next.lens.primary ≡ primary_in (Some l)
    → next.lens.surfaces ≡ r.lens.surfaces → next.lens.waves ≡ r.lens.waves → next.stop ≡ r.stop → next.unused ≡ r.unused
    → (offence n before l ≡ None) × IsAt (before ++ l ∷ []) next
PWAV-step n before l r next h at f p s w t u =
    let o = no (codes "PWAV") l h in
    let m : has_tag (codes "MODE") l ≡ false = o (codes "MODE") refl in
    let f_surf : has_tag (codes "SURF") l ≡ false = o (codes "SURF") refl in
    let f_wavm : has_tag (codes "WAVM") l ≡ false = o (codes "WAVM") refl in
    let read : is_read before l ≡ true = rw (m, f_surf, f_wavm, h) refl in (
      PWAV-offence n before l h ∙ f,
      record {
        surfaces = ap (λ v. v.items) s ∙ at.surfaces ∙ sym (surfaces-old before l (none_of (codes "PWAV") l h refl refl refl refl refl refl refl refl));
        waves = ap (λ v. v.items) w ∙ at.waves ∙ sym (waves-old before l f_wavm);
        primary = p ∙ ap primary_in (sym (last_of-new (codes "PWAV") before l h));
        stop = t ∙ at.stop ∙ ap stop_among (sym (marks-other before l f_surf (o (codes "STOP") refl)));
        unused = u ∙ at.unused ∙ sym (unused-read before l read);
      },
    )
