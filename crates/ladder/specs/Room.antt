-- Room for the surfaces of a lens. Cited by the bench.
use Rattle.std.specs.Prelude.{◌≡◌, ◌+◌, ◌≤◌, [], length}
use Rattle.ladder.specs.declared.rungs.Rungs.{Rungs}
use Rattle.skewtrace.specs.Filled.{Faces}

-- as many surfaces as a lens may have fit
abbrev pub Fits64 : {A : Type 0} → Faces A → Type 0
Fits64 p = 64 ≤ p.spare + length p.list

-- they fit at each scale
pub record HasRoom {A B C D : Type 0} (r : Rungs A B C D) : Type 0 where
  pub six : Fits64 r.six
  pub nine : Fits64 r.nine
  pub twelve : Fits64 r.twelve
  pub fifteen : Fits64 r.fifteen

-- no surface is prepared at any
pub record HasNone {A B C D : Type 0} (r : Rungs A B C D) : Type 0 where
  pub six : r.six.list ≡ []
  pub nine : r.nine.list ≡ []
  pub twelve : r.twelve.list ≡ []
  pub fifteen : r.fifteen.list ≡ []
