-- The printed rows of worked rays.
use Rattle.std.specs.Prelude.{ℤ, pos, negsuc, [], ◌∷◌, Some, None}
use Rattle.fixdec.specs.Ends.{Ends}
use Rattle.lensmodel.specs.declared.row.Heading.{Heading}
use Rattle.lensmodel.specs.declared.row.Place.{Place}
use Rattle.lensmodel.specs.declared.row.Row.{Row}
use Rattle.lensmodel.specs.declared.row.Word.TheVariants.{Passes}

-- millionths from a to b
abbrev pub span : ℤ → ℤ → Ends
span a b = record { lo = a; hi = b }

-- the printed heading of the slanted ray behind surface 1, in millionths
abbrev pub slanted_heading : Heading
slanted_heading = record { l = span (negsuc 0) (pos 1); m = span (pos 599998) (pos 600002); n = span (pos 799999) (pos 800001) }

-- the printed place of the slanted ray at surface 1, in millionths
abbrev pub slanted_vertex : Place
slanted_vertex = record {
  rho = span (pos 0) (pos 2);
  x = span (negsuc 2) (pos 3);
  y = span (negsuc 2) (pos 3);
  z = span (negsuc 0) (pos 1);
  path = span (negsuc 3) (pos 4);
  heading = Some slanted_heading;
}

-- the printed place of the slanted ray at the image, in millionths
abbrev pub slanted_image : Place
slanted_image = record {
  rho = span (pos 8999862) (pos 9000140);
  x = span (negsuc 13) (pos 14);
  y = span (pos 2999977) (pos 3000023);
  z = span (negsuc 0) (pos 1);
  path = span (pos 4999985) (pos 5000016);
  heading = None;
}

-- the printed row of the slanted ray
abbrev pub slanted_row : Row
slanted_row = record { scale = 6; word = Passes; places = record { items = slanted_vertex ∷ slanted_image ∷ [] } }

-- the printed heading of the ray along the axis of a sphere into glass, behind the sphere, in millionths
abbrev pub axis_heading : Heading
axis_heading = record { l = span (negsuc 2) (pos 3); m = span (negsuc 2) (pos 3); n = span (pos 999989) (pos 1000012) }

-- its printed place at the sphere
abbrev pub axis_vertex : Place
axis_vertex = record {
  rho = span (pos 0) (pos 2);
  x = span (negsuc 2) (pos 3);
  y = span (negsuc 2) (pos 3);
  z = span (negsuc 0) (pos 2);
  path = span (negsuc 3) (pos 5);
  heading = Some axis_heading;
}

-- its printed place at the image
abbrev pub axis_image : Place
axis_image = record {
  rho = span (pos 0) (pos 2);
  x = span (negsuc 45) (pos 46);
  y = span (negsuc 45) (pos 46);
  z = span (negsuc 0) (pos 1);
  path = span (pos 14999799) (pos 15000188);
  heading = None;
}
