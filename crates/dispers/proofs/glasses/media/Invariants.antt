use Rattle.std.proofs.Common.{◌≡◌, ◌≤◌, drop, take, length}
use Rattle.std.specs.Prelude.{map, unwrap_or}
use Rattle.lensmodel.specs.Files.Causes.{each_from, first_fault}
use Rattle.lensmodel.specs.Files.Joining.{medium_behind}
use Rattle.lensmodel.specs.declared.glass.Medium.TheVariants.{Air}
use Rattle.dispers.specs.Checks.{glass_fault}
use Rattle.dispers.proofs.glasses.media.Given as goal

abbrev pub invariant-loop-j : goal.invariant-loop-j
invariant-loop-j l = record {
  within : l.j ≤ length l.surfaces;
  faults : first_fault (each_from (glass_fault l.book) 0 l.surfaces) ≡ first_fault (each_from (glass_fault l.book) l.j (drop l.j l.surfaces));
  found : l.media.items ≡ map (λ f. unwrap_or (medium_behind l.book f) Air) (take l.j l.surfaces);
}
