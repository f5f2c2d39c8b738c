-- The rays that are counted and summed, one after another.
use Rattle.std.proofs.Common.{◌≡◌, ℕ, ◌+◌, List, [], ◌∷◌, ◌++◌, length, map, take, Some, sym, ap, subst, ◌∙◌, append_assoc, arith}
use Rattle.std.specs.Prelude.{slice_get}
use Rattle.std.proofs.lemmas.List.{take_all}
use Rattle.lensmodel.specs.Call.Trace.{rows_of}
use Rattle.lensmodel.specs.Rows.Ray.{row}
use Rattle.lensmodel.specs.Setup.Launches.{job_launches}
use Rattle.lensmodel.specs.declared.job.Ask.{Ask}
use Rattle.lensmodel.specs.declared.row.Row.{Row}
use Rattle.lensmodel.specs.declared.setup.Setup.{Setup}
use Rattle.lensreport.specs.Totals.{Counts, counts_of}
use Rattle.lensrun.specs.Traces.{CountsMore}
use Rattle.lensrun.proofs.Asks.{take-next, job_rows-next}
use Rattle.spotfan.specs.Sums.{Sums, sums_of}

pub counts-next : (old mid new : Counts) (rows : List Row) (k : ℕ) (r : Row) → slice_get rows k ≡ Some r → CountsMore old mid (take k rows)
    → ((counted : List Row) → mid ≡ counts_of counted → new ≡ counts_of (counted ++ r ∷ [])) → CountsMore old new (take (k + 1) rows)
counts-next old mid new rows k r at h add = λ counted e.
    add (counted ++ take k rows) (h counted e)
    ∙ ap counts_of (append_assoc counted (take k rows) (r ∷ []) ∙ ap (λ l. counted ++ l) (sym (take-next rows k r at)))

pub counts-end : (old new : Counts) (rows : List Row) (k : ℕ) → length rows ≡ k → CountsMore old new (take k rows) → CountsMore old new rows
counts-end old new rows k e h = subst (CountsMore old new) (take_all k rows (omega (arith, e))) h

pub sums-next : (mid new : Sums) (rows : List Row) (k : ℕ) (r : Row) → slice_get rows k ≡ Some r → mid ≡ sums_of (take k rows)
    → ((summed : List Row) → mid ≡ sums_of summed → new ≡ sums_of (summed ++ r ∷ [])) → new ≡ sums_of (take (k + 1) rows)
sums-next mid new rows k r at h add = add (take k rows) h ∙ ap sums_of (sym (take-next rows k r at))

pub sums-end : (new : Sums) (rows : List Row) (k : ℕ) → length rows ≡ k → new ≡ sums_of (take k rows) → new ≡ sums_of rows
sums-end new rows k e h = h ∙ ap sums_of (take_all k rows (omega (arith, e)))

-- the rays of the lines before and of one more
pub job_counts-next : (mid new : Counts) (s : Setup) (asks : List Ask) (k : ℕ) (a : Ask) → slice_get asks k ≡ Some a
    → mid ≡ counts_of (map (row s) (job_launches (take k asks))) → CountsMore mid new (rows_of s a)
    → new ≡ counts_of (map (row s) (job_launches (take (k + 1) asks)))
job_counts-next mid new s asks k a at h more = more (map (row s) (job_launches (take k asks))) h ∙ ap counts_of (job_rows-next s asks k a at)
