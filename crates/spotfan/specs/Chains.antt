-- What the statistics of traced rays hold: whichever whole chain is chosen for each row that passes. Cited by the tally and by
-- the commands that print spots.
use Rattle.std.proofs.Common.{◌≡◌, ℕ, suc, ◌-◌, ◌<◌, Bool, true, false, List, [], ◌∷◌, length, get_or, refl, subst, arith}
use Rattle.std.proofs.lemmas.List.Elements.{All-tail}
use Rattle.std.proofs.lemmas.Option.{slice_get-get_or}
use Rattle.std.specs.List.{All, AllZip}
use Rattle.std.specs.Prelude.{Some, None, map, filter, slice_get, cond}
use Rattle.fixdec.specs.Ends.{Ends}
use Rattle.fixdec.specs.Member.{IsMember}
use Rattle.fixdec.specs.Steps.{OnVal}
use Rattle.fixdec.specs.declared.step.Step.{Step}
use Rattle.lensmodel.specs.Claims.RowClaims.{HoldsPlace}
use Rattle.lensmodel.specs.Claims.SpotClaims.{mean_x, mean_y, spread, IsIn, IsChoice, Traced, IsTraced, image_point, AreChosen, SpotHolds}
use Rattle.lensmodel.specs.Equations.Chain.{Chain}
use Rattle.lensmodel.specs.Equations.Chains.{IsChainTo, IsWhole}
use Rattle.lensmodel.specs.Rows.Spot.{landing, landings, no_place, passes}
use Rattle.lensmodel.specs.Setup.Values.{image}
use Rattle.lensmodel.specs.declared.row.Place.{Place}
use Rattle.lensmodel.specs.declared.setup.Setup.{Setup}
use Rattle.spotfan.specs.Encloses.{centroid_rows-holds, spread_rows-holds}
use Rattle.spotfan.specs.Landings.{last-is}

-- the mean of the points in which the chosen chains meet the image lies in the answer
abbrev pub HoldsCentreOf : Setup → List Traced → Step (Ends × Ends) → Type 0
HoldsCentreOf s rays answer = (chains : List Chain) → AreChosen s rays chains → (chains ≡ [] → ⊥)
    → OnVal answer (λ c. IsMember 12 c.0 (mean_x (map (image_point s) chains)) × IsMember 12 c.1 (mean_y (map (image_point s) chains)))

-- their mean square distance from their mean lies in the answer
abbrev pub HoldsSpreadOf : Setup → List Traced → Step Ends → Type 0
HoldsSpreadOf s rays answer = (chains : List Chain) → AreChosen s rays chains → (chains ≡ [] → ⊥)
    → OnVal answer (λ r. IsMember 12 r (spread (map (image_point s) chains)))

abbrev nowhere : Place
nowhere = record { rho = no_place; x = no_place; y = no_place; z = no_place; path = no_place; heading = None }

module _ (s : Setup) (reached : 0 < image s) where
  -- a whole chain of a ray that passes meets the image where its row lands
  holds_at : (t : Traced) (c : Chain) (p : Place) (j : ℕ) → image s ≡ suc j → HoldsPlace t.row.scale p c (suc j)
      → landing t.row ≡ record { scale = t.row.scale; x = p.x; y = p.y } → IsIn (landing t.row) (image_point s c)
  holds_at t c p j e h same = rw (same, e) (record { x = h.x; y = h.y })

  pub lands : (t : Traced) (c : Chain) → IsTraced s t → passes t.row ≡ true → IsWhole s t.ray c → IsIn (landing t.row) (image_point s c)
  lands t c h passing whole =
      let ps = t.row.places.items in
      let count : length ps ≡ image s = h.reaches passing in
      let j = length ps - 1 in
      let e : image s ≡ suc j = omega arith in
      let p = get_or ps j nowhere in
      let there : slice_get ps j ≡ Some p = slice_get-get_or ps j nowhere (omega arith) in
      let chain : IsChainTo s t.ray (suc j) c = subst (λ n. IsChainTo s t.ray n c) e whole in
      holds_at t c p j e ((h.holds.encloses j p there).place c chain) (last-is t.row.scale ps p there)

  -- one ray before others
  before : (t : Traced) (rays : List Traced) → IsTraced s t
      → ((chains : List Chain) → AreChosen s rays chains → AllZip IsIn (landings (map (λ t. t.row) rays)) (map (image_point s) chains))
      → (b : Bool) → passes t.row ≡ b → (chains : List Chain)
      → AllZip (λ t c. IsWhole s t.ray c) (cond b (t ∷ filter (λ t. passes t.row) rays) (filter (λ t. passes t.row) rays)) chains
      → AllZip IsIn (map landing (cond b (t.row ∷ filter passes (map (λ t. t.row) rays)) (filter passes (map (λ t. t.row) rays)))) (map (image_point s) chains)
  before t rays h more true e [] z = absurd z
  before t rays h more true e (c ∷ chains) z = (lands t c h e z.0, more chains z.1)
  before t rays h more false e chains z = more chains z

  each_in : (rays : List Traced) (chains : List Chain) → All (IsTraced s) rays → AreChosen s rays chains
      → AllZip IsIn (landings (map (λ t. t.row) rays)) (map (image_point s) chains)
  each_in [] [] h z = tt
  each_in [] (c ∷ chains) h z = absurd z
  each_in (t ∷ rays) chains h z =
      before t rays (h 0 t (omega arith)) (λ chains z. each_in rays chains (All-tail (IsTraced s) t rays h) z) (passes t.row) refl chains z

  some_points : (chains : List Chain) → (chains ≡ [] → ⊥) → map (image_point s) chains ≡ [] → ⊥
  some_points [] h e = h refl
  some_points (c ∷ chains) h e = cc

  -- the points of chosen chains are a choice of the landings
  pub choice_of : (rays : List Traced) (chains : List Chain) → All (IsTraced s) rays → AreChosen s rays chains → (chains ≡ [] → ⊥)
      → IsChoice (landings (map (λ t. t.row) rays)) (map (image_point s) chains)
  choice_of rays chains h z some = record { each = each_in rays chains h z; some = some_points chains some }

  -- what is claimed of a spot holds, where the image isn't the object
  pub spot_holds : (rays : List Traced) → All (IsTraced s) rays → SpotHolds s rays
  spot_holds rays h chains z some =
      let all = landings (map (λ t. t.row) rays) in
      let chosen = choice_of rays chains h z some in
      (centroid_rows-holds all (map (image_point s) chains) chosen, spread_rows-holds all (map (image_point s) chains) chosen)
