-- Rows with the cells' arithmetic as an argument: they may be computed with roots that are tried.
use Rattle.std.proofs.Common.{◌≡◌, ℕ, zero, suc, [], ap, sym, subst, ◌∙◌, refl}
use Rattle.std.proofs.Math.Path.{fun_ext}
use Rattle.std.specs.Prelude.{ℤ, Some, None}
use Rattle.fixdec.specs.Ends.{Ends}
use Rattle.fixdec.specs.Form.{linear_operations}
use Rattle.fixdec.specs.IntervalOperations.{operations}
use Rattle.fixdec.specs.Operations.{Operations}
use Rattle.fixdec.specs.Steps.{◌>>=◌}
use Rattle.fixdec.specs.declared.step.Step.{Step}
use Rattle.fixdec.specs.declared.step.Step.TheVariants.{Val, Empty, Lost}
use Rattle.fixdec.specs.declared.step.Why.TheVariants.{Root}
use Rattle.lensmodel.specs.Rows.Constants.{residual_units}
use Rattle.lensmodel.specs.Rows.Cells.{window_row, is_kept, cells, kept_hull, cell_rows, pruned}
use Rattle.lensmodel.specs.Rows.Crossing.{Met, Line, arrival_rows, along_row, meet_standard_rows}
use Rattle.lensmodel.specs.Rows.Hit.{meet_by, meet_rows, point_rows, hit_rows}
use Rattle.lensmodel.specs.Rows.Outcome.{Outcome, Walked, ends_with, at_hit, at_prepared, walk, started, walked, word_of, places_of, outcome_at, row_of}
use Rattle.lensmodel.specs.Rows.Preparation.{Prepared, preparation_rows}
use Rattle.lensmodel.specs.Rows.Ray.{as_row, row_by, row_with, row}
use Rattle.lensmodel.specs.Rows.Sag.{sag_rows}
use Rattle.lensmodel.specs.Rows.SlopeRounds.{hulls, line_hulls, zone2_of, next_rows, narrowed, pruned_window, last_window, last_answer, meet_asphere_rows}
use Rattle.lensmodel.specs.Rows.Spans.{up_to}
use Rattle.lensmodel.specs.Rows.Start.{Incoming, start_rows}
use Rattle.lensmodel.specs.Setup.Values.{image}
use Rattle.lensmodel.specs.declared.launch.Launch.{Launch}
use Rattle.lensmodel.specs.declared.row.Row.{Row}
use Rattle.lensmodel.specs.declared.row.Word.TheVariants as word
use Rattle.lensmodel.specs.declared.setup.Setup.{Setup}
use Rattle.lensmodel.specs.declared.surface.SurfaceKind.{SurfaceKind}
use Rattle.lensmodel.specs.declared.surface.SurfaceKind.TheVariants.{Standard, EvenAsph}
use Rattle.lensmodel.specs.declared.tolerance.TolBox.{TolBox}
use Rattle.examples.proofs.TriedForms.{linear_by, same_linear}
use Rattle.examples.proofs.TriedRoots.{operations_by, tried_root, same_operations}

module _ (cell : Operations Ends) (scale : ℕ) where
  abbrev pub cell_by : Prepared Ends → Ends → Line Ends → ℤ → Ends → Step Ends
  cell_by face zone2 line e z = do
    x2 ← cell.square (← along_row cell line.x0 line.p z)
    y2 ← cell.square (← along_row cell line.y0 line.q z)
    rho ← cell.clip (← cell.plus x2 y2) (up_to zone2)
    cell.widen (← sag_rows cell scale face rho e) e

  abbrev pub pruned_by : Prepared Ends → Ends → Line Ends → ℤ → Ends → Step Ends
  pruned_by face zone2 line e a = kept_hull (λ z. is_kept z (cell_by face zone2 line e z)) (cells a)

module _ {A : Type 0} (cell : Operations Ends) (o : Operations A) (scale : ℕ) where
  abbrev pruned_window_by : Prepared A → Line A → ℤ → Step Ends
  pruned_window_by face line e = do
    first ← window_row scale (hulls o face) (zone2_of o face) e
    second ← pruned_by cell scale (hulls o face) (zone2_of o face) (line_hulls o line) e first
    pruned_by cell scale (hulls o face) (zone2_of o face) (line_hulls o line) e second

  abbrev last_window_by : Prepared A → Line A → ℤ → Step Ends
  last_window_by face line e = do
    first ← pruned_window_by face line e
    second ← narrowed o scale first (next_rows o scale face line e first)
    third ← narrowed o scale second (next_rows o scale face line e second)
    narrowed o scale third (next_rows o scale face line e third)

  abbrev meet_cells_by : Prepared A → Line A → ℤ → Step A
  meet_cells_by face line e = do
    a ← last_window_by face line e
    last_answer o scale a (next_rows o scale face line e a)

  abbrev meet_kind_by : SurfaceKind → Prepared A → Line A → ℤ → Step A
  meet_kind_by Standard face line e = meet_standard_rows o scale face line e
  meet_kind_by EvenAsph face line e = meet_cells_by face line e

  abbrev pub hit_by : Prepared A → Incoming A → ℤ → Step (Met A)
  hit_by face ray e = do
    arrival ← arrival_rows o face ray e
    z ← meet_kind_by face.kind face arrival.line e
    point_rows o scale face.kind face ray arrival z e

same_meet : {A : Type 0} (o : Operations A) (scale : ℕ) (face : Prepared A) (line : Line A) (e : ℤ)
    → meet_cells_by (operations scale) o scale face line e ≡ meet_asphere_rows o scale face line e
unfolding meet_asphere_rows last_window pruned_window pruned cell_rows
same_meet o scale face line e = refl

same_kinds : {A : Type 0} (o : Operations A) (scale : ℕ) (kind : SurfaceKind) (face : Prepared A) (line : Line A) (e : ℤ)
    → meet_kind_by (operations scale) o scale kind face line e ≡ meet_by o scale kind face line e
same_kinds o scale Standard face line e = refl
same_kinds o scale EvenAsph face line e = same_meet o scale face line e

same_then : {A B : Type 0} (r : Step A) (f g : A → Step B) → ((a : A) → f a ≡ g a) → r >>= f ≡ r >>= g
same_then r f g h = ap (λ k. r >>= k) (fun_ext h)

same_hit : {A : Type 0} (o : Operations A) (scale : ℕ) (face : Prepared A) (ray : Incoming A) (e : ℤ)
    → hit_by (operations scale) o scale face ray e ≡ hit_rows o scale face ray e
unfolding hit_rows meet_rows
same_hit o scale face ray e =
    same_then (arrival_rows o face ray e) _ _ (λ arrival. ap (λ r. r >>= (λ z. point_rows o scale face.kind face ray arrival z e)) (same_kinds o scale face.kind face arrival.line e))

-- ---- a walk with the crossing phase as an argument
module _ {A : Type 0} (hit : Prepared A → Incoming A → ℤ → Step (Met A)) (o : Operations A) (scale : ℕ) (s : Setup) (e : ℤ) where
  abbrev at_prepared_by : ℕ → Incoming A → (Incoming A → Walked) → Step (Prepared A) → Walked
  at_prepared_by j ray go_on (Val face) = at_hit o scale s e j ray face go_on (hit face ray e)
  at_prepared_by j ray go_on Empty = ends_with (word.Lost (suc j) Root) []
  at_prepared_by j ray go_on (Lost why) = ends_with (word.Lost (suc j) why) []

  abbrev walk_by : ℕ → ℕ → Incoming A → Walked
  walk_by zero j ray = record { ended = None; places = [] }
  walk_by (suc left) j ray = at_prepared_by j ray (λ next. walk_by left (suc j) next) (preparation_rows o scale s e j)

  abbrev started_by : Step (Incoming A) → Walked
  started_by (Val ray) = walk_by (image s) 0 ray
  started_by Empty = ends_with (word.Lost 1 Root) []
  started_by (Lost why) = ends_with (word.Lost 1 why) []

abbrev finished : ℕ → Setup → Walked → Outcome
finished scale s w = record { scale = scale; word = word_of scale s.width w.ended w.places; places = places_of w.places }

abbrev pub outcome_by : {A : Type 0} → (Prepared A → Incoming A → ℤ → Step (Met A)) → Operations A → ℕ → Setup → Launch → Outcome
outcome_by hit o scale s ray =
    finished scale s (started_by hit o scale s (residual_units scale s.res) (start_rows o scale ray (residual_units scale s.res)))

module _ {A : Type 0} (o : Operations A) (scale : ℕ) (s : Setup) (e : ℤ) where
  same_prepared : (j : ℕ) (ray : Incoming A) (go_on : Incoming A → Walked) (face : Step (Prepared A))
      → at_prepared_by (hit_rows o scale) o scale s e j ray go_on face ≡ at_prepared o scale s e j ray go_on face
  same_prepared j ray go_on (Val face) = refl
  same_prepared j ray go_on Empty = refl
  same_prepared j ray go_on (Lost why) = refl

  same_walk : (left j : ℕ) (ray : Incoming A) → walk_by (hit_rows o scale) o scale s e left j ray ≡ walk o scale s e left j ray
  same_walk zero j ray = refl
  same_walk (suc left) j ray =
      ap (λ go. at_prepared_by (hit_rows o scale) o scale s e j ray go (preparation_rows o scale s e j)) (fun_ext (same_walk left (suc j)))
      ∙ same_prepared j ray (walk o scale s e left (suc j)) (preparation_rows o scale s e j)

  same_start : (start : Step (Incoming A)) → started_by (hit_rows o scale) o scale s e start ≡ started o scale s e start
  same_start (Val ray) = same_walk (image s) 0 ray
  same_start Empty = refl
  same_start (Lost why) = refl

same_outcome : {A : Type 0} (o : Operations A) (scale : ℕ) (s : Setup) (ray : Launch)
    → outcome_by (hit_rows o scale) o scale s ray ≡ outcome_at o scale s ray
unfolding outcome_at walked
same_outcome o scale s ray = ap (finished scale s) (same_start o scale s (residual_units scale s.res) (start_rows o scale ray (residual_units scale s.res)))

-- ---- a row with the cells' arithmetic as an argument
abbrev pub outcome_with_cells : {A : Type 0} → (ℕ → Operations Ends) → (ℕ → Operations A) → Setup → Launch → ℕ → Outcome
outcome_with_cells c o s ray scale = outcome_by (hit_by (c scale) (o scale) scale) (o scale) scale s ray

unfoldable pub row_with_cells : {A : Type 0} → (ℕ → Operations Ends) → (ℕ → Operations A) → Setup → Launch → Row
row_with_cells c o s ray =
    as_row (row_of (outcome_with_cells c o s ray 6) (outcome_with_cells c o s ray 9) (outcome_with_cells c o s ray 12) (outcome_with_cells c o s ray 15))

same_at : {A : Type 0} (o : ℕ → Operations A) (s : Setup) (ray : Launch) (scale : ℕ) → outcome_with_cells operations o s ray scale ≡ outcome_at (o scale) scale s ray
same_at o s ray scale =
    ap (λ hit. outcome_by hit (o scale) scale s ray) (fun_ext (λ face. fun_ext (λ ray. fun_ext (λ e. same_hit (o scale) scale face ray e))))
    ∙ same_outcome (o scale) scale s ray

same_row : {A : Type 0} (o : ℕ → Operations A) (s : Setup) (ray : Launch) → row_with_cells operations o s ray ≡ row_by o s ray
unfolding row_with_cells
same_row o s ray = ap (λ at. as_row (row_of (at 6) (at 9) (at 12) (at 15))) (fun_ext (same_at o s ray))

-- a row may be computed with roots that are tried: without a box
pub row_by_trying : (s : Setup) (ray : Launch) (x : Row) → s.toler ≡ None
    → row_with_cells (operations_by tried_root) (operations_by tried_root) s ray ≡ x → row s ray ≡ x
unfolding row
row_by_trying s ray x plain h =
    ap (λ t. row_with t s ray) plain ∙ sym (same_row operations s ray) ∙ subst (λ o. row_with_cells o o s ray ≡ x) same_operations h

-- and with one
pub boxed_row_by_trying : {box : TolBox} (s : Setup) (ray : Launch) (x : Row) → s.toler ≡ Some box
    → row_with_cells (operations_by tried_root) (linear_by tried_root) s ray ≡ x → row s ray ≡ x
unfolding row
boxed_row_by_trying s ray x boxed h =
    ap (λ t. row_with t s ray) boxed ∙ sym (same_row linear_operations s ray)
    ∙ subst (λ c. row_with_cells c linear_operations s ray ≡ x) same_operations
    (subst (λ o. row_with_cells (operations_by tried_root) o s ray ≡ x) same_linear h)

-- so may an outcome at one scale
pub outcome_by_trying : (scale : ℕ) (s : Setup) (ray : Launch) (x : Outcome)
    → outcome_with_cells (operations_by tried_root) (operations_by tried_root) s ray scale ≡ x → outcome_at (operations scale) scale s ray ≡ x
outcome_by_trying scale s ray x h =
    sym (same_at operations s ray scale) ∙ subst (λ o. outcome_with_cells o o s ray scale ≡ x) same_operations h
