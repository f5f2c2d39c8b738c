-- What one more line changes in a job.
use Rattle.std.proofs.Common.{◌≡◌, ℕ, Bool, true, false, List, [], ◌∷◌, ◌++◌, append_assoc, refl, sym, ap, subst, ◌∙◌, true≢false}
use Rattle.std.proofs.lemmas.List.{append-nil}
use Rattle.std.specs.Option.{option_map}
use Rattle.std.specs.Prelude.{Option, Some, None, if◌then◌else◌}
use Rattle.lensmodel.specs.Files.Causes.{or_first}
use Rattle.lensmodel.specs.Files.Job.{number_at, pupil_behind, ask_of, with_ask, asks_behind, all_asks}
use Rattle.lensmodel.specs.Files.JobFaults.{is_WAVE, is_RES, is_WIDTH, is_PUPIL}
use Rattle.lensmodel.specs.Files.Records.{Words, has_tag, last_where, decimal_at}
use Rattle.lensmodel.specs.declared.job.Ask.{Ask}
use Rattle.records.specs.LineLaws.{last_where-append}
use Rattle.records.specs.SameWords.{same-yes}
use Rattle.jobtext.specs.Readers.{IsAt, last_of}
use Rattle.jobtext.specs.Records.{pupil_of}
use Rattle.jobtext.specs.declared.walk.Reader.{Reader}

-- what holds of each line whose first word is the tag
pub tagged : (tag : List ℕ) (P : Words → Type 0) → ((more : Words) → P (tag ∷ more)) → (l : Words) → has_tag tag l ≡ true → P l
tagged tag P f [] h = absurd (true≢false (sym h))
tagged tag P f (w ∷ more) h = subst (λ (x : List ℕ). P (x ∷ more)) (sym (same-yes w tag h)) (f more)

-- ---- the last line of a kind
last_of-append : {A : Type 0} (is : Words → Bool) (said : Words → A) (ls : List Words) (l : Words)
    → last_of is said (ls ++ l ∷ []) ≡ (if is l then Some (said l) else last_of is said ls)
last_of-append is said ls l =
    ap (option_map said) (last_where-append is ls l)
    ∙ elim (is l) as (λ b. option_map said (or_first (if b then Some l else None) (last_where is ls)) ≡ (if b then Some (said l) else option_map said (last_where is ls)))
    [ true ↦ refl | false ↦ refl ]

-- ---- the asks
with_ask-append : (o : Option Ask) (xs ys : List Ask) → with_ask o (xs ++ ys) ≡ with_ask o xs ++ ys
with_ask-append (Some a) xs ys = refl
with_ask-append None xs ys = refl

asks_behind-append : (before ls : List Words) (l : Words)
    → asks_behind before (ls ++ l ∷ []) ≡ asks_behind before ls ++ with_ask (ask_of (pupil_behind (before ++ ls)) l) []
asks_behind-append before [] l = ap (λ (b : List Words). with_ask (ask_of (pupil_behind b) l) []) (sym (append-nil before))
asks_behind-append before (x ∷ ls) l =
    let o = ask_of (pupil_behind before) x in
    ap (with_ask o) (asks_behind-append (before ++ x ∷ []) ls l)
    ∙ ap (λ (b : List Words). with_ask o (asks_behind (before ++ x ∷ []) ls ++ with_ask (ask_of (pupil_behind b) l) [])) (append_assoc before (x ∷ []) ls)
    ∙ with_ask-append o (asks_behind (before ++ x ∷ []) ls) (with_ask (ask_of (pupil_behind (before ++ x ∷ ls)) l) [])

-- ---- the reader
-- the lines with one more are those of a reader that took what the line says
pub at_next : (before : List Words) (l : Words) (r next : Reader) (o : Option Ask)
    → next.wave ≡ (if is_WAVE l then Some (decimal_at 1 l) else r.wave)
    → next.res ≡ (if is_RES l then Some (number_at 1 l) else r.res)
    → next.width ≡ (if is_WIDTH l then Some (decimal_at 1 l) else r.width)
    → next.pupil ≡ (if is_PUPIL l then Some (pupil_of l) else r.pupil)
    → ask_of (pupil_behind before) l ≡ o
    → next.asks.items ≡ r.asks.items ++ with_ask o []
    → IsAt before r → IsAt (before ++ l ∷ []) next
at_next before l r next o wave res width pupil ask asks at = record {
  wave = wave ∙ ap (λ w. if is_WAVE l then Some (decimal_at 1 l) else w) at.wave ∙ sym (last_of-append is_WAVE (decimal_at 1) before l);
  res = res ∙ ap (λ w. if is_RES l then Some (number_at 1 l) else w) at.res ∙ sym (last_of-append is_RES (number_at 1) before l);
  width = width ∙ ap (λ w. if is_WIDTH l then Some (decimal_at 1 l) else w) at.width ∙ sym (last_of-append is_WIDTH (decimal_at 1) before l);
  pupil = pupil ∙ ap (λ w. if is_PUPIL l then Some (pupil_of l) else w) at.pupil ∙ sym (last_of-append is_PUPIL pupil_of before l);
  asks = asks ∙ ap (λ (xs : List Ask). xs ++ with_ask o []) at.asks
      ∙ sym (asks_behind-append [] before l ∙ ap (λ (p : Option Ask). all_asks before ++ with_ask p []) ask);
}

pub empty-next : (before : List Words) (r : Reader) → IsAt before r → IsAt (before ++ [] ∷ []) r
empty-next before r at = at_next before [] r r None refl refl refl refl refl (sym (append-nil r.asks.items)) at
