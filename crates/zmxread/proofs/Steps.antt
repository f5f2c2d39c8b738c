-- One more line: what it says of the lens, by what the reader did with it.
use Rattle.std.specs.Prelude.{◌≡◌, ℕ, zero, suc, ◌-◌, true, false, Bool, ◌||◌, ◌&&◌, nat_eq, nat_le, nat_lt, List, [], ◌∷◌, ◌++◌, length, codes, slice_set, slice_index_or, ℤ, pos, negsuc, Option, Some, None, if◌then◌else◌, refl}
use Rattle.std.proofs.Common.{ap, sym, ◌∙◌, arith}
use Rattle.arrayvec.specs.ArrayVec.{with_items}
use Rattle.lensmodel.specs.Files.Causes.{or_first, bad_unless}
use Rattle.lensmodel.specs.Files.Lens.{is_marked, surface_of, all_surfaces, primary_in, unused_names, counted}
use Rattle.lensmodel.specs.Files.LensFaults.{is_SURF, is_of_lens, is_of_surface, is_read, index_of, bad_index, bad_decimal, missing, offence, surface_offence, indexed_fault}
use Rattle.lensmodel.specs.Files.Records.{Words, has_tag, word_at, each_block, count_where, some_where, is_number, number_or_0, number_to, is_whole_number, whole_decimal}
use Rattle.lensmodel.specs.declared.fault.ZmxFault.{ZmxFault}
use Rattle.lensmodel.specs.declared.surface.Surface.{Surface}
use Rattle.fixdec.specs.Reading.{decimal_of}
use Rattle.zmxread.specs.Changes.{with_field, with_TYPE, with_CURV, with_DISZ, with_GLAS, with_DIAM, with_CONI, with_PARM}
use Rattle.zmxread.specs.Readers.{IsAt, stop_among, marks_of}
use Rattle.zmxread.specs.Stops.{marked_too}
use Rattle.zmxread.specs.Tags.{with_unused}
use Rattle.zmxread.specs.declared.walk.Reader.{Reader}
use Rattle.zmxread.specs.declared.walk.Stop.{Stop}
use Rattle.zmxread.proofs.Blocks.{Changes, on_last, on_last-same, each_block-grows}
use Rattle.zmxread.proofs.LastItem.{write-last}
use Rattle.zmxread.proofs.Lasts.{HasNone, none-changes, TYPE-changes, CURV-changes, CONI-changes, DISZ-changes, GLAS-changes, DIAM-changes, PARM-changes, last_of-old}
use Rattle.zmxread.proofs.Marks.{marks-STOP, marks-other, positive}
use Rattle.zmxread.proofs.TagWords.{other_tag}
use Rattle.zmxread.proofs.Unused.{unused-read, unused-more}
use Rattle.zmxread.proofs.Waves.{waves-old}

-- ---- numbers
number-index : (most : ℕ) (o : Option ℤ) (f : ZmxFault) → bad_unless (number_to most o) f ≡ None → (k : ℕ) → is_whole_number k o ≡ nat_eq (number_or_0 (number_to most o)) k
number-index most None f h k = cc
number-index most (Some (negsuc n)) f h k = cc
number-index most (Some (pos n)) f h k =
    elim (nat_le n most) as (λ b. bad_unless (if b then Some n else None) f ≡ None → nat_eq n k ≡ nat_eq (number_or_0 (if b then Some n else None)) k) [
      | true ↦ (λ e. refl)
      | false ↦ (λ e. cc)
    ] h

none-first : {A : Type 0} (a b : Option A) → or_first a b ≡ None → (a ≡ None) × (b ≡ None)
none-first None b h = (refl, h)
none-first (Some x) b h = cc

-- a line whose words are right has an index
pub index-known : (n : ℕ) (l : Words) → indexed_fault n l ≡ None → (k : ℕ) → is_number k (word_at 1 l) ≡ nat_eq (number_or_0 (index_of (word_at 1 l))) k
index-known n l h k =
    let rest = (none-first (missing n 2 l) (or_first (bad_index n 1 l) (or_first (bad_decimal n 2 l) None)) h).1 in
    let good : bad_index n 1 l ≡ None = (none-first (bad_index n 1 l) (or_first (bad_decimal n 2 l) None) rest).0 in
    number-index 65535 (whole_decimal (decimal_of (word_at 1 l))) (ZmxFault.BadNumber n 2) good k

-- ---- a line of the fields
-- along an equation of changes
changes-along : (l : Words) (change other : Surface → Surface) → ((f : Surface) → other f ≡ change f) → Changes is_SURF surface_of l change → Changes is_SURF surface_of l other
changes-along l change other e c = record {
  inner = c.inner;
  made = λ head ls. c.made head ls ∙ sym (e (surface_of head ls));
}

pub field-changes : (n : ℕ) (l : Words) → is_SURF l ≡ false → surface_offence n l ≡ None → Changes is_SURF surface_of l (with_field l)
field-changes n l s h =
    elim (has_tag (codes "TYPE") l) as (λ b. has_tag (codes "TYPE") l ≡ b → Changes is_SURF surface_of l (with_field l)) [
      | true ↦ (λ t0. changes-along l (with_TYPE l) (with_field l) (λ f. rw (t0) refl) (TYPE-changes l t0))
      | false ↦ (λ t0. elim (has_tag (codes "CURV") l) as (λ b. has_tag (codes "CURV") l ≡ b → Changes is_SURF surface_of l (with_field l)) [
        | true ↦ (λ t1. changes-along l (with_CURV l) (with_field l) (λ f. rw (t0, t1) refl) (CURV-changes l t1))
        | false ↦ (λ t1. elim (has_tag (codes "DISZ") l) as (λ b. has_tag (codes "DISZ") l ≡ b → Changes is_SURF surface_of l (with_field l)) [
          | true ↦ (λ t2. changes-along l (with_DISZ l) (with_field l) (λ f. rw (t0, t1, t2) refl) (DISZ-changes l t2))
          | false ↦ (λ t2. elim (has_tag (codes "GLAS") l) as (λ b. has_tag (codes "GLAS") l ≡ b → Changes is_SURF surface_of l (with_field l)) [
            | true ↦ (λ t3. changes-along l (with_GLAS l) (with_field l) (λ f. rw (t0, t1, t2, t3) refl) (GLAS-changes l t3))
            | false ↦ (λ t3. elim (has_tag (codes "DIAM") l) as (λ b. has_tag (codes "DIAM") l ≡ b → Changes is_SURF surface_of l (with_field l)) [
              | true ↦ (λ t4. changes-along l (with_DIAM l) (with_field l) (λ f. rw (t0, t1, t2, t3, t4) refl) (DIAM-changes l t4))
              | false ↦ (λ t4. elim (has_tag (codes "CONI") l) as (λ b. has_tag (codes "CONI") l ≡ b → Changes is_SURF surface_of l (with_field l)) [
                | true ↦ (λ t5. changes-along l (with_CONI l) (with_field l) (λ f. rw (t0, t1, t2, t3, t4, t5) refl) (CONI-changes l t5))
                | false ↦ (λ t5. elim (has_tag (codes "PARM") l) as (λ b. has_tag (codes "PARM") l ≡ b → Changes is_SURF surface_of l (with_field l)) [
                  | true ↦ (λ p.
                      let e : surface_offence n l ≡ indexed_fault n l = rw (t0, t1, t2, t3, t4, t5, p) refl in
                      let i = number_or_0 (index_of (word_at 1 l)) in
                      changes-along l (with_PARM l) (with_field l) (λ f. rw (t0, t1, t2, t3, t4, t5, p) refl) (PARM-changes l i p (index-known n l (sym e ∙ h))))
                  | false ↦ (λ p. changes-along l (λ f. f) (with_field l) (λ f. rw (t0, t1, t2, t3, t4, t5, p) refl)
                      (none-changes l (record { surf = s; type = t0; curv = t1; disz = t2; glas = t3; diam = t4; coni = t5; parm = p })))
                ] refl)
              ] refl)
            ] refl)
          ] refl)
        ] refl)
      ] refl)
    ] refl

-- ---- lines of no whole lens
or-false : (a b : Bool) → (a || b) ≡ false → (a ≡ false) × (b ≡ false)
or-false true b h = cc
or-false false b h = (refl, h)

pub record IsInner (l : Words) : Type 0 where
  pub mode : has_tag (codes "MODE") l ≡ false
  pub surf : has_tag (codes "SURF") l ≡ false
  pub wavm : has_tag (codes "WAVM") l ≡ false
  pub pwav : has_tag (codes "PWAV") l ≡ false

pub inner : (l : Words) → is_of_lens l ≡ false → IsInner l
inner l h =
    let m = has_tag (codes "MODE") l in
    let s = has_tag (codes "SURF") l in
    let w = has_tag (codes "WAVM") l in
    let p = has_tag (codes "PWAV") l in
    let hp = or-false ((m || s) || w) p h in
    let hw = or-false (m || s) w hp.0 in
    let hs = or-false m s hw.0 in
    record { mode = hs.0; surf = hs.1; wavm = hw.1; pwav = hp.1 }

-- a line with none of the tags of a surface
pub record IsOther (l : Words) : Type 0 where
  pub type : has_tag (codes "TYPE") l ≡ false
  pub curv : has_tag (codes "CURV") l ≡ false
  pub disz : has_tag (codes "DISZ") l ≡ false
  pub glas : has_tag (codes "GLAS") l ≡ false
  pub diam : has_tag (codes "DIAM") l ≡ false
  pub coni : has_tag (codes "CONI") l ≡ false
  pub parm : has_tag (codes "PARM") l ≡ false
  pub stop : has_tag (codes "STOP") l ≡ false

other_line : (l : Words) → is_of_surface l ≡ false → IsOther l
other_line l h =
    let type = has_tag (codes "TYPE") l in
    let curv = has_tag (codes "CURV") l in
    let disz = has_tag (codes "DISZ") l in
    let glas = has_tag (codes "GLAS") l in
    let diam = has_tag (codes "DIAM") l in
    let coni = has_tag (codes "CONI") l in
    let parm = has_tag (codes "PARM") l in
    let stop = has_tag (codes "STOP") l in
    let comm = has_tag (codes "COMM") l in
    let h1 = or-false (((((((type || curv) || disz) || glas) || diam) || coni) || parm) || stop) comm h in
    let h2 = or-false ((((((type || curv) || disz) || glas) || diam) || coni) || parm) stop h1.0 in
    let h3 = or-false (((((type || curv) || disz) || glas) || diam) || coni) parm h2.0 in
    let h4 = or-false ((((type || curv) || disz) || glas) || diam) coni h3.0 in
    let h5 = or-false (((type || curv) || disz) || glas) diam h4.0 in
    let h6 = or-false ((type || curv) || disz) glas h5.0 in
    let h7 = or-false (type || curv) disz h6.0 in
    let h8 = or-false type curv h7.0 in
    record { type = h8.0; curv = h8.1; disz = h7.1; glas = h6.1; diam = h5.1; coni = h4.1; parm = h3.1; stop = h2.1 }

has_none : (l : Words) → is_SURF l ≡ false → IsOther l → HasNone l
has_none l s o = record { surf = s; type = o.type; curv = o.curv; coni = o.coni; disz = o.disz; glas = o.glas; diam = o.diam; parm = o.parm }

-- ---- the surfaces so far
pub each_block-count : {A : Type 0} (is : Words → Bool) (make : Words → List Words → A) (ls : List Words) → length (each_block is make ls) ≡ count_where is ls
each_block-count is make [] = refl
each_block-count is make (x ∷ ls) =
    rw (sym (each_block-count is make ls))
    (elim (is x) as (λ b. length (if b then make x (Rattle.lensmodel.specs.Files.Records.block_before is ls) ∷ each_block is make ls else each_block is make ls)
    ≡ (if b then suc (length (each_block is make ls)) else length (each_block is make ls))) [ true ↦ refl | false ↦ refl ])

pub count-so-far : (before : List Words) (r : Reader) → IsAt before r → length r.lens.surfaces.items ≡ count_where is_SURF before
count-so-far before r at = ap length at.surfaces ∙ each_block-count is_SURF surface_of before

is_some : (n : ℕ) → (n ≡ 0 → ⊥) → nat_lt 0 n ≡ true
is_some zero h = absurd (h refl)
is_some (suc n) h = positive n

some-begun : (before : List Words) (r : Reader) → IsAt before r → (length r.lens.surfaces.items ≡ 0 → ⊥) → some_where is_SURF before ≡ true
some-begun before r at h = is_some (count_where is_SURF before) (λ e. h (count-so-far before r at ∙ e))

none-begun : (before : List Words) (r : Reader) → IsAt before r → length r.lens.surfaces.items ≡ 0 → some_where is_SURF before ≡ false
none-begun before r at h = ap (nat_lt 0) (sym (count-so-far before r at) ∙ h)

each_block-none : {A : Type 0} (is : Words → Bool) (make : Words → List Words → A) (ls : List Words) (l : Words) → is l ≡ false → count_where is ls ≡ 0
    → each_block is make (ls ++ l ∷ []) ≡ each_block is make ls
each_block-none is make [] l h e = rw h refl
each_block-none is make (x ∷ ls) l h e =
    elim (is x) as (λ b. is x ≡ b → each_block is make (x ∷ (ls ++ l ∷ [])) ≡ each_block is make (x ∷ ls)) [
      | true ↦ (λ t. let z : suc (count_where is ls) ≡ 0 = rw t at e in absurd (omega arith))
      | false ↦ (λ t. let z : count_where is ls ≡ 0 = rw t at e in rw t (each_block-none is make ls l h z))
    ] refl

-- ---- what stays
pub surfaces-old : (before : List Words) (l : Words) → HasNone l → all_surfaces (before ++ l ∷ []) ≡ all_surfaces before
surfaces-old before l h = each_block-grows is_SURF surface_of before l (λ f. f) (none-changes l h) ∙ on_last-same (all_surfaces before)

-- what a line of no whole lens leaves
inner-step : (before : List Words) (l : Words) (r next : Reader) → IsInner l → IsAt before r
    → next.lens.surfaces.items ≡ all_surfaces (before ++ l ∷ []) → next.lens.waves.items ≡ r.lens.waves.items → next.lens.primary ≡ r.lens.primary
    → next.stop ≡ stop_among (marks_of (before ++ l ∷ [])) → next.unused ≡ counted (unused_names [] (before ++ l ∷ []))
    → IsAt (before ++ l ∷ []) next
inner-step before l r next i at f w p s u = record {
  surfaces = f;
  waves = w ∙ at.waves ∙ sym (waves-old before l i.wavm);
  primary = p ∙ at.primary ∙ ap primary_in (sym (last_of-old (codes "PWAV") before l i.pwav));
  stop = s;
  unused = u;
}

pub offence-inner : (n : ℕ) (before : List Words) (l : Words) → IsInner l → some_where is_SURF before ≡ true → offence n before l ≡ surface_offence n l
offence-inner n before l i h = rw (i.mode, i.surf, i.wavm, i.pwav, h) refl

offence-before : (n : ℕ) (before : List Words) (l : Words) → IsInner l → some_where is_SURF before ≡ false → offence n before l ≡ None
offence-before n before l i h = rw (i.mode, i.surf, i.wavm, i.pwav, h) refl

not-of-lens : (l : Words) → IsInner l → is_of_lens l ≡ false
not-of-lens l i = rw (i.mode, i.surf, i.wavm, i.pwav) refl

-- ---- the steps of such lines
-- before the first surface, a line is counted as unused
pub early-step : (n : ℕ) (before : List Words) (l : Words) (r next : Reader) → IsInner l → IsAt before r → length r.lens.surfaces.items ≡ 0
    → next ≡ record r { unused = with_unused l r.unused } → (offence n before l ≡ None) × IsAt (before ++ l ∷ []) next
early-step n before l r next i at h e =
    let none = none-begun before r at h in
    let no : count_where is_SURF before ≡ 0 = sym (count-so-far before r at) ∙ h in
    let unread : is_read before l ≡ false = rw (not-of-lens l i, none) (elim (is_of_surface l) as (λ b. (b && false) ≡ false) [ true ↦ refl | false ↦ refl ]) in
    let stop = ap (λ ms. Rattle.lensmodel.specs.Files.Lens.marked_from 0 ms) (each_block-none is_SURF is_marked before l i.surf no) in (
      offence-before n before l i none,
      inner-step before l r next i at
          (ap (λ (x : Reader). x.lens.surfaces.items) e ∙ at.surfaces ∙ sym (each_block-none is_SURF surface_of before l i.surf no))
          (ap (λ (x : Reader). x.lens.waves.items) e)
          (ap (λ (x : Reader). x.lens.primary) e)
          (ap (λ (x : Reader). x.stop) e ∙ at.stop ∙ ap stop_among (sym stop))
          (ap (λ (x : Reader). x.unused) e ∙ ap (with_unused l) at.unused ∙ sym (unused-more before l unread)),
    )

-- a line of another tag is
pub other-step : (n : ℕ) (before : List Words) (l : Words) (r next : Reader) → IsInner l → IsAt before r → is_of_surface l ≡ false
    → next ≡ record r { unused = with_unused l r.unused } → (offence n before l ≡ None) × IsAt (before ++ l ∷ []) next
other-step n before l r next i at h e =
    let o = other_line l h in
    let unread : is_read before l ≡ false = rw (not-of-lens l i, h) refl in
    let passes : surface_offence n l ≡ None = rw (o.type, o.curv, o.disz, o.glas, o.diam, o.coni, o.parm) refl in
    let passed : offence n before l ≡ None =
    elim (some_where is_SURF before) as (λ b. some_where is_SURF before ≡ b → offence n before l ≡ None) [
      | true ↦ (λ t. offence-inner n before l i t ∙ passes)
      | false ↦ (λ t. offence-before n before l i t)
    ] refl in (
      passed,
      inner-step before l r next i at
          (ap (λ (x : Reader). x.lens.surfaces.items) e ∙ at.surfaces ∙ sym (surfaces-old before l (has_none l i.surf o)))
          (ap (λ (x : Reader). x.lens.waves.items) e)
          (ap (λ (x : Reader). x.lens.primary) e)
          (ap (λ (x : Reader). x.stop) e ∙ at.stop ∙ ap stop_among (sym (marks-other before l i.surf o.stop)))
          (ap (λ (x : Reader). x.unused) e ∙ ap (with_unused l) at.unused ∙ sym (unused-more before l unread)),
    )

-- a line of a surface is read behind a SURF line
read-inside : (before : List Words) (l : Words) → IsInner l → is_of_surface l ≡ true → some_where is_SURF before ≡ true → is_read before l ≡ true
read-inside before l i h b = rw (not-of-lens l i, h, b) refl

-- STOP marks the last surface
pub STOP-step : (n : ℕ) (before : List Words) (l : Words) (r : Reader) (count : ℕ) (next : Stop) → IsInner l → IsAt before r → has_tag (codes "STOP") l ≡ true
    → count ≡ length r.lens.surfaces.items → (count ≡ 0 → ⊥) → next ≡ marked_too (count - 1) r.stop
    → (offence n before l ≡ None) × IsAt (before ++ l ∷ []) (record r { stop = next })
STOP-step n before l r count next i at h c some to =
    let no : (tag : List ℕ) → Rattle.lensmodel.specs.Files.Records.same_word (codes "STOP") tag ≡ false → has_tag tag l ≡ false = λ tag e. other_tag (codes "STOP") tag l h e in
    let type = no (codes "TYPE") refl in
    let curv = no (codes "CURV") refl in
    let disz = no (codes "DISZ") refl in
    let glas = no (codes "GLAS") refl in
    let diam = no (codes "DIAM") refl in
    let coni = no (codes "CONI") refl in
    let parm = no (codes "PARM") refl in
    let none : HasNone l = record { surf = i.surf; type = type; curv = curv; coni = coni; disz = disz; glas = glas; diam = diam; parm = parm } in
    let begun = some-begun before r at (λ e. some (c ∙ e)) in
    let of : is_of_surface l ≡ true = rw (type, curv, disz, glas, diam, coni, parm, h) refl in
    let marks : length (each_block is_SURF is_marked before) ≡ suc (count - 1) =
    let k : length r.lens.surfaces.items ≡ count_where is_SURF before = count-so-far before r at in
    let m : length (each_block is_SURF is_marked before) ≡ count_where is_SURF before = each_block-count is_SURF is_marked before in
    omega arith in
    let passes : surface_offence n l ≡ None = rw (type, curv, disz, glas, diam, coni, parm) refl in (
      offence-inner n before l i begun ∙ passes,
      inner-step before l r (record r { stop = next }) i at
          (at.surfaces ∙ sym (surfaces-old before l none)) refl refl
          (to ∙ ap (marked_too (count - 1)) at.stop ∙ sym (marks-STOP before l (count - 1) h marks))
          (at.unused ∙ sym (unused-read before l (read-inside before l i of begun))),
    )

-- a line of a field, or a comment, changes the last surface
pub field-step : (n : ℕ) (before : List Words) (l : Words) (r : Reader) (count : ℕ) (xs : List Surface) (d new : Surface) → IsInner l → IsAt before r
    → has_tag (codes "STOP") l ≡ false → is_of_surface l ≡ true → count ≡ length r.lens.surfaces.items → (count ≡ 0 → ⊥) → xs ≡ r.lens.surfaces.items
    → surface_offence n l ≡ None → new ≡ with_field l (slice_index_or xs (count - 1) d)
    → (offence n before l ≡ None) × IsAt (before ++ l ∷ []) (record r { lens = record r.lens { surfaces = with_items r.lens.surfaces (slice_set xs (count - 1) new) } })
field-step n before l r count xs d new i at s of c some x passes to =
    let begun = some-begun before r at (λ e. some (c ∙ e)) in (
      offence-inner n before l i begun ∙ passes,
      inner-step before l r (record r { lens = record r.lens { surfaces = with_items r.lens.surfaces (slice_set xs (count - 1) new) } }) i at
          (write-last r.lens.surfaces.items xs count d new (with_field l) x c some to ∙ ap (on_last (with_field l)) at.surfaces
          ∙ sym (each_block-grows is_SURF surface_of before l (with_field l) (field-changes n l i.surf passes)))
          refl refl
          (at.stop ∙ ap stop_among (sym (marks-other before l i.surf s)))
          (at.unused ∙ sym (unused-read before l (read-inside before l i of begun))),
    )

-- the offence of such a line
pub field-offence : (n : ℕ) (before : List Words) (l : Words) (r : Reader) (count : ℕ) → IsInner l → IsAt before r
    → count ≡ length r.lens.surfaces.items → (count ≡ 0 → ⊥) → offence n before l ≡ surface_offence n l
field-offence n before l r count i at c some = offence-inner n before l i (some-begun before r at (λ e. some (c ∙ e)))
