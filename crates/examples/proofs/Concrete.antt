-- Facts about written fractions, by computing. Where they are used, `unfolding` opens the operations.
use Rattle.std.proofs.Common.{◌≡◌}
use Rattle.std.specs.Prelude.{◌*ℤ◌}
use Rattle.std.specs.Int.Signed.{le_z, lt_z}
use lib.Dec.{T}
use Rattle.fixdec.specs.Frac.{Frac, den, ◌≈◌, ◌≤Q◌, ◌<Q◌, ◌+Q◌}
use Rattle.fixdec.specs.Ends.{Ends}
use Rattle.fixdec.specs.Frac.{whole, ◌*Q◌}
use Rattle.fixdec.specs.Member.{IsMember, units}
use Rattle.lensmodel.specs.Equations.Residual.{IsWithin}
use Rattle.std.specs.Prelude.{ℕ}

pub same : {a b : Frac} → a.num *ℤ den b ≡ b.num *ℤ den a → a ≈ b
same p = record { cross = p }

pub at_most : {a b : Frac} → T (le_z (a.num *ℤ den b) (b.num *ℤ den a)) → a ≤Q b
at_most p = record { cross = record { le = p } }

pub less_than : {a b : Frac} → T (lt_z (a.num *ℤ den b) (b.num *ℤ den a)) → a <Q b
less_than p = record { cross = record { lt = p } }

pub near : {eps a b : Frac} → T (le_z (b.num *ℤ den (a +Q eps)) ((a +Q eps).num *ℤ den b))
    → T (le_z (a.num *ℤ den (b +Q eps)) ((b +Q eps).num *ℤ den a)) → IsWithin eps a b
near p q = record { above = at_most p; below = at_most q }

pub inside : {scale : ℕ} {e : Ends} {v : Frac} → T (le_z ((whole e.lo).num *ℤ den (v *Q units scale)) ((v *Q units scale).num *ℤ den (whole e.lo)))
    → T (le_z ((v *Q units scale).num *ℤ den (whole e.hi)) ((whole e.hi).num *ℤ den (v *Q units scale))) → IsMember scale e v
inside p q = record { low = at_most p; high = at_most q }
