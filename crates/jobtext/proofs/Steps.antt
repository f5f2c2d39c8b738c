-- One more line: what it says of the job, by what the reader did with it.
use Rattle.std.proofs.Common.{◌≡◌, ℕ, Bool, true, false, List, [], ◌∷◌, ◌++◌, length, refl, sym, ap, subst, ◌∙◌}
use Rattle.std.proofs.lemmas.List.{append-nil}
use Rattle.std.specs.Option.{option_map, is_some}
use Rattle.std.specs.Prelude.{Option, Some, None, codes, unwrap_or, if◌then◌else◌}
use Rattle.lensmodel.specs.Files.Job.{number_at, pupil_behind, ask_of}
use Rattle.lensmodel.specs.Files.JobFaults.{is_WAVE, is_RES, is_WIDTH, is_PUPIL, decimals_offence, PUPIL_offence, offence}
use Rattle.lensmodel.specs.Files.Records.{Words, same_word, has_tag, last_where, decimal_at}
use Rattle.lensmodel.specs.Setup.Ranges.{is_positive, is_residual, is_width, is_fan, is_grid}
use Rattle.lensmodel.specs.declared.job.Ask.{Ask}
use Rattle.lensmodel.specs.declared.job.Ask.TheVariants.{Ray, Aim, Fan, Spot, First, Seidel}
use Rattle.jobtext.specs.Readers.{IsAt, last_of}
use Rattle.jobtext.specs.Records.{decimal_fault, whole_fault, aim_fault, spread_fault, pupil_of}
use Rattle.jobtext.specs.declared.setting.Pupil.{Pupil}
use Rattle.jobtext.specs.declared.walk.Reader.{Reader}
use Rattle.jobtext.proofs.Growth.{tagged, at_next, empty-next}
use Rattle.jobtext.proofs.Offences.{WAVE-offence, RES-offence, WIDTH-offence, PUPIL-offence, RAY-offence, AIM-offence, FAN-offence, SPOT-offence, FIRST-offence, SEIDEL-offence}

pub empty-step : (n : ℕ) (before : List Words) (l : Words) (r : Reader) → l ≡ [] → IsAt before r → (offence n before l ≡ None) × IsAt (before ++ l ∷ []) r
empty-step n before l r e at = (
  ap (offence n before) e,
  subst (λ (x : Words). IsAt (before ++ x ∷ []) r) (sym e) (empty-next before r at),
)

-- ---- settings
WAVE-next : (before : List Words) (l : Words) (r : Reader) → is_WAVE l ≡ true → IsAt before r → IsAt (before ++ l ∷ []) (record r { wave = Some (decimal_at 1 l) })
WAVE-next before l r h at = tagged (codes "WAVE") (λ (x : Words). IsAt (before ++ x ∷ []) (record r { wave = Some (decimal_at 1 x) }))
    (λ more. let next : Reader = record r { wave = Some (decimal_at 1 (codes "WAVE" ∷ more)) } in
    at_next before (codes "WAVE" ∷ more) r next None refl refl refl refl refl (sym (append-nil r.asks.items)) at) l h

pub WAVE-step : (n : ℕ) (before : List Words) (l : Words) (r next : Reader) → is_WAVE l ≡ true → length l ≡ 2 → r.wave ≡ None
    → decimal_fault n is_positive l ≡ None → next ≡ record r { wave = Some (decimal_at 1 l) } → IsAt before r → (offence n before l ≡ None) × IsAt (before ++ l ∷ []) next
WAVE-step n before l r next h e none f s at = (
  WAVE-offence n before l r h e none at ∙ f,
  subst (λ (x : Reader). IsAt (before ++ l ∷ []) x) (sym s) (WAVE-next before l r h at),
)

RES-next : (before : List Words) (l : Words) (r : Reader) → is_RES l ≡ true → IsAt before r → IsAt (before ++ l ∷ []) (record r { res = Some (number_at 1 l) })
RES-next before l r h at = tagged (codes "RES") (λ (x : Words). IsAt (before ++ x ∷ []) (record r { res = Some (number_at 1 x) }))
    (λ more. let next : Reader = record r { res = Some (number_at 1 (codes "RES" ∷ more)) } in
    at_next before (codes "RES" ∷ more) r next None refl refl refl refl refl (sym (append-nil r.asks.items)) at) l h

pub RES-step : (n : ℕ) (before : List Words) (l : Words) (r next : Reader) → is_RES l ≡ true → length l ≡ 2 → r.res ≡ None
    → whole_fault n is_residual l ≡ None → next ≡ record r { res = Some (number_at 1 l) } → IsAt before r → (offence n before l ≡ None) × IsAt (before ++ l ∷ []) next
RES-step n before l r next h e none f s at = (
  RES-offence n before l r h e none at ∙ f,
  subst (λ (x : Reader). IsAt (before ++ l ∷ []) x) (sym s) (RES-next before l r h at),
)

WIDTH-next : (before : List Words) (l : Words) (r : Reader) → is_WIDTH l ≡ true → IsAt before r → IsAt (before ++ l ∷ []) (record r { width = Some (decimal_at 1 l) })
WIDTH-next before l r h at = tagged (codes "WIDTH") (λ (x : Words). IsAt (before ++ x ∷ []) (record r { width = Some (decimal_at 1 x) }))
    (λ more. let next : Reader = record r { width = Some (decimal_at 1 (codes "WIDTH" ∷ more)) } in
    at_next before (codes "WIDTH" ∷ more) r next None refl refl refl refl refl (sym (append-nil r.asks.items)) at) l h

pub WIDTH-step : (n : ℕ) (before : List Words) (l : Words) (r next : Reader) → is_WIDTH l ≡ true → length l ≡ 2 → r.width ≡ None
    → decimal_fault n is_width l ≡ None → next ≡ record r { width = Some (decimal_at 1 l) } → IsAt before r → (offence n before l ≡ None) × IsAt (before ++ l ∷ []) next
WIDTH-step n before l r next h e none f s at = (
  WIDTH-offence n before l r h e none at ∙ f,
  subst (λ (x : Reader). IsAt (before ++ l ∷ []) x) (sym s) (WIDTH-next before l r h at),
)

PUPIL-next : (before : List Words) (l : Words) (r : Reader) → is_PUPIL l ≡ true → IsAt before r → IsAt (before ++ l ∷ []) (record r { pupil = Some (pupil_of l) })
PUPIL-next before l r h at = tagged (codes "PUPIL") (λ (x : Words). IsAt (before ++ x ∷ []) (record r { pupil = Some (pupil_of x) }))
    (λ more. let next : Reader = record r { pupil = Some (pupil_of (codes "PUPIL" ∷ more)) } in
    at_next before (codes "PUPIL" ∷ more) r next None refl refl refl refl refl (sym (append-nil r.asks.items)) at) l h

pub PUPIL-step : (n : ℕ) (before : List Words) (l : Words) (r next : Reader) → is_PUPIL l ≡ true
    → PUPIL_offence n l ≡ None → next ≡ record r { pupil = Some (pupil_of l) } → IsAt before r → (offence n before l ≡ None) × IsAt (before ++ l ∷ []) next
PUPIL-step n before l r next h f s at = (
  PUPIL-offence n before l h ∙ f,
  subst (λ (x : Reader). IsAt (before ++ l ∷ []) x) (sym s) (PUPIL-next before l r h at),
)

-- ---- asks
-- a reader after a line of a tag that is no setting's
ask_next : (tag : List ℕ) → same_word tag (codes "WAVE") ≡ false → same_word tag (codes "RES") ≡ false → same_word tag (codes "WIDTH") ≡ false
    → same_word tag (codes "PUPIL") ≡ false → (before : List Words) (l : Words) (r next : Reader) (a : Ask) → has_tag tag l ≡ true
    → ask_of (pupil_behind before) l ≡ Some a → next.asks.items ≡ r.asks.items ++ a ∷ [] → next ≡ record r { asks = next.asks }
    → IsAt before r → IsAt (before ++ l ∷ []) next
ask_next tag wave res width pupil before l r next a h ask items others at =
    let not_wave = tagged tag (λ (x : Words). is_WAVE x ≡ false) (λ more. wave) l h in
    let not_res = tagged tag (λ (x : Words). is_RES x ≡ false) (λ more. res) l h in
    let not_width = tagged tag (λ (x : Words). is_WIDTH x ≡ false) (λ more. width) l h in
    let not_pupil = tagged tag (λ (x : Words). is_PUPIL x ≡ false) (λ more. pupil) l h in
    at_next before l r next (Some a)
    (ap (λ (x : Reader). x.wave) others ∙ sym (ap (λ (b : Bool). if b then Some (decimal_at 1 l) else r.wave) not_wave))
    (ap (λ (x : Reader). x.res) others ∙ sym (ap (λ (b : Bool). if b then Some (number_at 1 l) else r.res) not_res))
    (ap (λ (x : Reader). x.width) others ∙ sym (ap (λ (b : Bool). if b then Some (decimal_at 1 l) else r.width) not_width))
    (ap (λ (x : Reader). x.pupil) others ∙ sym (ap (λ (b : Bool). if b then Some (pupil_of l) else r.pupil) not_pupil))
    ask items at

-- what is made of the pupil in force
under_pupil : (make : Pupil → Ask) (before : List Words) (o : Option Pupil) (a : Ask) → o ≡ last_of is_PUPIL pupil_of before → option_map make o ≡ Some a
    → Some (make (pupil_of (pupil_behind before))) ≡ Some a
under_pupil make before o a s e = behind (last_where is_PUPIL before) (ap (option_map make) (sym s) ∙ e)
  where
    behind : (p : Option Words) → option_map make (option_map pupil_of p) ≡ Some a → Some (make (pupil_of (unwrap_or p []))) ≡ Some a
    behind (Some x) h = h
    behind None h = cc

pub RAY-step : (n : ℕ) (before : List Words) (l : Words) (r next : Reader) (a : Ask) → has_tag (codes "RAY") l ≡ true
    → decimals_offence n 4 l ≡ None → a ≡ Ray (decimal_at 1 l) (decimal_at 2 l) (decimal_at 3 l) (decimal_at 4 l)
    → next.asks.items ≡ r.asks.items ++ a ∷ [] → next ≡ record r { asks = next.asks } → IsAt before r → (offence n before l ≡ None) × IsAt (before ++ l ∷ []) next
RAY-step n before l r next a h f v items others at = (
  RAY-offence n before l h ∙ f,
  ask_next (codes "RAY") refl refl refl refl before l r next a h
      (tagged (codes "RAY") (λ (x : Words). ask_of (pupil_behind before) x ≡ Some (Ray (decimal_at 1 x) (decimal_at 2 x) (decimal_at 3 x) (decimal_at 4 x))) (λ more. refl) l h ∙ ap Some (sym v))
      items others at,
)

pub FIRST-step : (n : ℕ) (before : List Words) (l : Words) (r next : Reader) (a : Ask) → has_tag (codes "FIRST") l ≡ true
    → decimals_offence n 2 l ≡ None → a ≡ First (decimal_at 1 l) (decimal_at 2 l)
    → next.asks.items ≡ r.asks.items ++ a ∷ [] → next ≡ record r { asks = next.asks } → IsAt before r → (offence n before l ≡ None) × IsAt (before ++ l ∷ []) next
FIRST-step n before l r next a h f v items others at = (
  FIRST-offence n before l h ∙ f,
  ask_next (codes "FIRST") refl refl refl refl before l r next a h
      (tagged (codes "FIRST") (λ (x : Words). ask_of (pupil_behind before) x ≡ Some (First (decimal_at 1 x) (decimal_at 2 x))) (λ more. refl) l h ∙ ap Some (sym v))
      items others at,
)

pub SEIDEL-step : (n : ℕ) (before : List Words) (l : Words) (r next : Reader) (a : Ask) → has_tag (codes "SEIDEL") l ≡ true
    → decimals_offence n 4 l ≡ None → a ≡ Seidel (decimal_at 1 l) (decimal_at 2 l) (decimal_at 3 l) (decimal_at 4 l)
    → next.asks.items ≡ r.asks.items ++ a ∷ [] → next ≡ record r { asks = next.asks } → IsAt before r → (offence n before l ≡ None) × IsAt (before ++ l ∷ []) next
SEIDEL-step n before l r next a h f v items others at = (
  SEIDEL-offence n before l h ∙ f,
  ask_next (codes "SEIDEL") refl refl refl refl before l r next a h
      (tagged (codes "SEIDEL") (λ (x : Words). ask_of (pupil_behind before) x ≡ Some (Seidel (decimal_at 1 x) (decimal_at 2 x) (decimal_at 3 x) (decimal_at 4 x))) (λ more. refl) l h ∙ ap Some (sym v))
      items others at,
)

pub AIM-step : (n : ℕ) (before : List Words) (l : Words) (r next : Reader) (a : Ask) → has_tag (codes "AIM") l ≡ true
    → aim_fault n (is_some r.pupil) l ≡ None → option_map (λ s. Aim (decimal_at 1 l) (decimal_at 2 l) (decimal_at 3 l) (decimal_at 4 l) s.z s.r) r.pupil ≡ Some a
    → next.asks.items ≡ r.asks.items ++ a ∷ [] → next ≡ record r { asks = next.asks } → IsAt before r → (offence n before l ≡ None) × IsAt (before ++ l ∷ []) next
AIM-step n before l r next a h f v items others at =
    let make : Words → Pupil → Ask = λ x s. Aim (decimal_at 1 x) (decimal_at 2 x) (decimal_at 3 x) (decimal_at 4 x) s.z s.r in (
      AIM-offence n before l r h at ∙ f,
      ask_next (codes "AIM") refl refl refl refl before l r next a h
          (tagged (codes "AIM") (λ (x : Words). ask_of (pupil_behind before) x ≡ Some (make x (pupil_of (pupil_behind before)))) (λ more. refl) l h
          ∙ under_pupil (make l) before r.pupil a at.pupil v)
          items others at,
    )

pub FAN-step : (n : ℕ) (before : List Words) (l : Words) (r next : Reader) (a : Ask) → has_tag (codes "FAN") l ≡ true
    → spread_fault n is_fan (is_some r.pupil) l ≡ None → option_map (λ s. Fan (decimal_at 1 l) (decimal_at 2 l) (number_at 3 l) s.z s.r) r.pupil ≡ Some a
    → next.asks.items ≡ r.asks.items ++ a ∷ [] → next ≡ record r { asks = next.asks } → IsAt before r → (offence n before l ≡ None) × IsAt (before ++ l ∷ []) next
FAN-step n before l r next a h f v items others at =
    let make : Words → Pupil → Ask = λ x s. Fan (decimal_at 1 x) (decimal_at 2 x) (number_at 3 x) s.z s.r in (
      FAN-offence n before l r h at ∙ f,
      ask_next (codes "FAN") refl refl refl refl before l r next a h
          (tagged (codes "FAN") (λ (x : Words). ask_of (pupil_behind before) x ≡ Some (make x (pupil_of (pupil_behind before)))) (λ more. refl) l h
          ∙ under_pupil (make l) before r.pupil a at.pupil v)
          items others at,
    )

pub SPOT-step : (n : ℕ) (before : List Words) (l : Words) (r next : Reader) (a : Ask) → has_tag (codes "SPOT") l ≡ true
    → spread_fault n is_grid (is_some r.pupil) l ≡ None → option_map (λ s. Spot (decimal_at 1 l) (decimal_at 2 l) (number_at 3 l) s.z s.r) r.pupil ≡ Some a
    → next.asks.items ≡ r.asks.items ++ a ∷ [] → next ≡ record r { asks = next.asks } → IsAt before r → (offence n before l ≡ None) × IsAt (before ++ l ∷ []) next
SPOT-step n before l r next a h f v items others at =
    let make : Words → Pupil → Ask = λ x s. Spot (decimal_at 1 x) (decimal_at 2 x) (number_at 3 x) s.z s.r in (
      SPOT-offence n before l r h at ∙ f,
      ask_next (codes "SPOT") refl refl refl refl before l r next a h
          (tagged (codes "SPOT") (λ (x : Words). ask_of (pupil_behind before) x ≡ Some (make x (pupil_of (pupil_behind before)))) (λ more. refl) l h
          ∙ under_pupil (make l) before r.pupil a at.pupil v)
          items others at,
    )
