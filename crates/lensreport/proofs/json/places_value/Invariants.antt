use Rattle.std.proofs.Common.{◌≡◌, take}
use Rattle.std.specs.Prelude.{map}
use Rattle.lensreport.specs.JsonData.{place_data}
use Rattle.serde_json.specs.View.{view}
use Rattle.lensreport.proofs.json.places_value.Given as goal

abbrev pub invariant-loop-p : goal.invariant-loop-p
invariant-loop-p l = map view l.values.items ≡ map (place_data l.scale) (take l.p-index l.places)
