-- A certificate as contracts see it: its scale, and its parts and places as lists. Cited by the certificate's type.
use Rattle.std.specs.Prelude.{ℕ, List}
use Rattle.lensmodel.specs.declared.certificate.CertPlace.{CertPlace}
use Rattle.lensmodel.specs.declared.certificate.RayCert.{RayCert}

pub record CertValue : Type 0 where
  pub scale : ℕ
  pub parts : List RayCert
  pub places : List CertPlace
