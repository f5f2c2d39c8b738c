-- The report of a trace, as it is gathered and written.
use Rattle.std.proofs.Common.{◌≡◌, ℕ, ◌<◌, ◌≤◌, Bool, true, false, List, [], ◌∷◌, ◌++◌, length, map, Option, None, refl, ap, subst, ◌∙◌, arith}
use Rattle.std.specs.Prelude.{nat_lt, not, drop, ◌-◌}
use borrow.Author.Tests.{ltb-false}
use Rattle.lensio.specs.Taken.{Takes, TakesFront}
use Rattle.lensmodel.specs.Call.Trace.{asks_lines, trace_text}
use Rattle.lensmodel.specs.Files.Causes.{fault_if, first_fault}
use Rattle.lensmodel.specs.Rows.Ray.{row}
use Rattle.lensmodel.specs.Setup.Launches.{job_launches}
use Rattle.lensmodel.specs.Setup.Values.{surface_at, image}
use Rattle.lensmodel.specs.Setup.WellFormed.{IsWellFormed}
use Rattle.lensmodel.specs.Setup.WholeFaults.{whole_fault, faults_from}
use Rattle.lensmodel.specs.Texts.Rows.{trace_head, total_line}
use Rattle.lensmodel.specs.declared.fault.ZmxFault.TheVariants.{TooFewSurfaces, StopCount, MirrorAtObject}
use Rattle.lensmodel.specs.declared.job.Ask.{Ask}
use Rattle.lensmodel.specs.declared.job.Job.{Job}
use Rattle.lensmodel.specs.declared.setup.Setup.{Setup}
use Rattle.lensrun.specs.Gathered.{Gathers}
use Rattle.lensrun.proofs.Gathering.{front-more, gathers-trans, gathers-front, gathers-put, gathers-put-front}

-- ---- the image
not-faulty : {F : Type 0} (b : Bool) (f : F) (xs : List (Option F)) → first_fault (fault_if b f ∷ xs) ≡ None → b ≡ false
not-faulty true f xs h = cc
not-faulty false f xs h = refl

-- the image of a well-formed setup isn't its object
pub image-reached : (s : Setup) → IsWellFormed s → 0 < image s
unfolding whole_fault
image-reached s w =
    let fs = s.lens.surfaces.items in
    let later = faults_from (length fs - 1) 1 (drop 1 fs) in
    let mirror = fault_if (surface_at s 0).mirror MirrorAtObject in
    let stop = fault_if (not (nat_lt s.lens.stop (length fs))) StopCount in
    let enough : 3 ≤ length fs = ltb-false (length fs) 3 (not-faulty (nat_lt (length fs) 3) TooFewSurfaces (stop ∷ mirror ∷ later) w.lens.whole) in
    omega arith

-- ---- the report
module _ (s : Setup) (job : Job) (piece head : List ℕ) (empty : piece ≡ []) (line : head ≡ trace_head s) where
  asks : List ℕ
  asks = asks_lines s 1 job.asks

  total : List ℕ
  total = total_line (map (row s) (job_launches job.asks))

  text-whole : (piece ++ head) ++ asks ++ total ≡ trace_text s job
  unfolding asks total trace_text
  text-whole = ap (λ l. (l ++ head) ++ asks ++ total) empty ∙ ap (λ l. l ++ asks ++ total) line

  pub head_front : (a b : Option (List ℕ)) → TakesFront a b (piece ++ head) → TakesFront a b (trace_text s job)
  head_front a b t = subst (TakesFront a b) text-whole (front-more a b _ total (front-more a b (piece ++ head) asks t))

  module _ (a b c : Option (List ℕ)) (p : List ℕ) (g : Gathers a b p (piece ++ head)) (slice : List Ask) (same : slice ≡ job.asks) where
    pub asks_front : TakesFront b c (p ++ asks_lines s 1 slice) → TakesFront a c (trace_text s job)
    unfolding asks
    asks_front t =
        subst (TakesFront a c) text-whole
        (front-more a c ((piece ++ head) ++ asks) total
        (gathers-front a b c p (piece ++ head) asks g (subst (λ l. TakesFront b c (p ++ asks_lines s 1 l)) same t)))

    module _ (q : List ℕ) (h : Gathers b c q (p ++ asks_lines s 1 slice)) (d : Option (List ℕ)) (own : List ℕ)
        (last : own ≡ total_line (map (row s) (job_launches slice))) where
      with_asks : Gathers a c q ((piece ++ head) ++ asks)
      unfolding asks
      with_asks = gathers-trans a b c p q (piece ++ head) asks g (subst (λ l. Gathers b c q (p ++ asks_lines s 1 l)) same h)

      with_total : ((piece ++ head) ++ asks) ++ own ≡ trace_text s job
      unfolding total
      with_total = ap (λ l. ((piece ++ head) ++ asks) ++ l) (last ∙ ap (λ l. total_line (map (row s) (job_launches l))) same) ∙ text-whole

      pub total_front : TakesFront c d (q ++ own) → TakesFront a d (trace_text s job)
      total_front t = subst (TakesFront a d) with_total (gathers-front a c d q ((piece ++ head) ++ asks) own with_asks t)

      module _ (r : List ℕ) (k : Gathers c d r (q ++ own)) (e : Option (List ℕ)) where
        whole : Gathers a d r (trace_text s job)
        whole = subst (Gathers a d r) with_total (gathers-trans a c d q r ((piece ++ head) ++ asks) own with_asks k)

        pub trace_taken : Takes d e r → Takes a e (trace_text s job)
        trace_taken t = gathers-put a d e r (trace_text s job) whole t

        pub trace_put_front : TakesFront d e r → TakesFront a e (trace_text s job)
        trace_put_front t = gathers-put-front a d e r (trace_text s job) whole t
