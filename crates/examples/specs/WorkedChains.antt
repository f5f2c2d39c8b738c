-- Worked chains: small numbers that can be checked by hand.
use Rattle.std.specs.Prelude.{ℕ, zero, suc, ℤ, pos, negsuc, ◌-◌, ◌^◌}
use Rattle.fixdec.specs.Frac.{Frac, ◌*Q◌, whole}
use Rattle.fixdec.specs.Member.{Symbols}
use Rattle.lensmodel.specs.Equations.Chain.{Chain}

-- a at the start, b at surface 1, c from surface 2 on
abbrev pub by_surface : Frac → Frac → Frac → ℕ → Frac
by_surface a b c zero = a
by_surface a b c (suc zero) = b
by_surface a b c (suc (suc j)) = c

-- n units of the fifteenth place
abbrev pub digits : ℤ → Frac
digits n = record { num = n; less = 10 ^ 15 - 1 }

-- the chain of the slanted ray through the plane: its sides are 3, 4 and 5
abbrev pub slanted_chain : Symbols → Chain
slanted_chain symbols = record {
  symbols = symbols;
  glass_index = λ j. whole (pos 1);
  x = λ j. whole (pos 0);
  y = by_surface (whole (pos 0)) (whole (pos 0)) (whole (pos 3));
  z = λ j. whole (pos 0);
  path = by_surface (whole (pos 0)) (whole (pos 0)) (whole (pos 5));
  rho = by_surface (whole (pos 0)) (whole (pos 0)) (whole (pos 9));
  conic_sag = λ j. whole (pos 0);
  w = λ j. whole (pos 1);
  l = λ j. whole (pos 0);
  m = λ j. record { num = pos 3; less = 4 };
  n = λ j. record { num = pos 4; less = 4 };
}

-- the chain along the axis of the sphere: 10 of glass, of index 3/2
abbrev pub axis_chain : Symbols → Chain
axis_chain symbols = record {
  symbols = symbols;
  glass_index = by_surface (whole (pos 1)) (record { num = pos 3; less = 1 }) (whole (pos 1));
  x = λ j. whole (pos 0);
  y = λ j. whole (pos 0);
  z = λ j. whole (pos 0);
  path = by_surface (whole (pos 0)) (whole (pos 0)) (whole (pos 15));
  rho = λ j. whole (pos 0);
  conic_sag = λ j. whole (pos 0);
  w = λ j. whole (pos 1);
  l = λ j. whole (pos 0);
  m = λ j. whole (pos 0);
  n = λ j. whole (pos 1);
}

-- the slanted ray again, with the height y at the image
abbrev pub slanted_to : Frac → Symbols → Chain
slanted_to y symbols = record (slanted_chain symbols) { y = by_surface (whole (pos 0)) (whole (pos 0)) y; rho = by_surface (whole (pos 0)) (whole (pos 0)) (y *Q y) }

-- a ray at the height 6 through the sphere, to fifteen places: its sag is 2, and its normal leans by the sides 3, 4 and 5
abbrev pub height_chain : Symbols → Chain
height_chain symbols = record {
  symbols = symbols;
  glass_index = by_surface (whole (pos 1)) (record { num = pos 3; less = 1 }) (whole (pos 1));
  x = λ j. whole (pos 0);
  y = by_surface (whole (pos 6)) (whole (pos 6)) (digits (pos 4110100926607787));
  z = by_surface (whole (pos 0)) (whole (pos 2)) (whole (pos 0));
  path = by_surface (whole (pos 0)) (whole (pos 2)) (digits (pos 14330302779823360));
  rho = by_surface (whole (pos 0)) (whole (pos 36)) (digits (pos 4110100926607787) *Q digits (pos 4110100926607787));
  conic_sag = by_surface (whole (pos 0)) (whole (pos 2)) (whole (pos 0));
  w = by_surface (whole (pos 1)) (record { num = pos 4; less = 4 }) (whole (pos 1));
  l = λ j. whole (pos 0);
  m = by_surface (whole (pos 0)) (digits (negsuc 229909083394700)) (whole (pos 0));
  n = by_surface (whole (pos 1)) (digits (pos 973212111192934)) (whole (pos 1));
}

-- a ray at the height 2 into the parabola, and back to its focus: the sides are 5, 12 and 13
abbrev pub mirror_chain : Symbols → Chain
mirror_chain symbols = record {
  symbols = symbols;
  glass_index = λ j. whole (pos 1);
  x = λ j. whole (pos 0);
  y = by_surface (whole (pos 2)) (whole (pos 2)) (whole (pos 0));
  z = by_surface (whole (pos 0)) (record { num = negsuc 0; less = 4 }) (whole (pos 0));
  path = by_surface (whole (pos 0)) (record { num = negsuc 0; less = 4 }) (whole (pos 5));
  rho = by_surface (whole (pos 0)) (whole (pos 4)) (whole (pos 0));
  conic_sag = by_surface (whole (pos 0)) (record { num = negsuc 0; less = 4 }) (whole (pos 0));
  w = λ j. whole (pos 1);
  l = λ j. whole (pos 0);
  m = by_surface (whole (pos 0)) (record { num = negsuc 4; less = 12 }) (whole (pos 0));
  n = by_surface (whole (pos 1)) (record { num = negsuc 11; less = 12 }) (whole (pos 1));
}

-- a level ray through the plane, which starts at the height 5 and goes on at the height y
abbrev pub level_chain : Frac → Symbols → Chain
level_chain y symbols = record {
  symbols = symbols;
  glass_index = λ j. whole (pos 1);
  x = λ j. whole (pos 0);
  y = by_surface (whole (pos 5)) y y;
  z = λ j. whole (pos 0);
  path = by_surface (whole (pos 0)) (whole (pos 0)) (whole (pos 4));
  rho = λ j. y *Q y;
  conic_sag = λ j. whole (pos 0);
  w = λ j. whole (pos 1);
  l = λ j. whole (pos 0);
  m = λ j. whole (pos 0);
  n = λ j. whole (pos 1);
}

-- the steep ray in glass, to fifteen places, at the plane
abbrev pub steep_chain : Symbols → Chain
steep_chain symbols = record {
  symbols = symbols;
  glass_index = by_surface (record { num = pos 3; less = 1 }) (whole (pos 1)) (whole (pos 1));
  x = λ j. whole (pos 0);
  y = λ j. whole (pos 0);
  z = λ j. whole (pos 0);
  path = λ j. whole (pos 0);
  rho = λ j. whole (pos 0);
  conic_sag = λ j. whole (pos 0);
  w = λ j. whole (pos 1);
  l = λ j. whole (pos 0);
  m = λ j. digits (pos 768221279597376);
  n = λ j. digits (pos 640184399664480);
}

-- the ray of slope 5 that meets the bowl at the height y, where the sag is z and the path p, to fifteen places
abbrev pub bowl_chain : Frac → Frac → Frac → Symbols → Chain
bowl_chain y z p symbols = record {
  symbols = symbols;
  glass_index = λ j. whole (pos 1);
  x = λ j. whole (pos 0);
  y = by_surface (record { num = pos 3; less = 7 }) y (record { num = pos 163; less = 7 });
  z = by_surface (whole (pos 0)) z (whole (pos 0));
  path = by_surface (whole (pos 0)) p (digits (pos 20396078054371139));
  rho = by_surface (whole (pos 0)) (y *Q y) (record { num = pos 26569; less = 63 });
  conic_sag = λ j. whole (pos 0);
  w = λ j. whole (pos 1);
  l = λ j. whole (pos 0);
  m = λ j. digits (pos 980580675690920);
  n = λ j. digits (pos 196116135138184);
}

-- it meets the bowl twice, at the heights 1/2 and 3/2
abbrev pub bowl_near : Symbols → Chain
bowl_near = bowl_chain (record { num = pos 1; less = 1 }) (record { num = pos 1; less = 39 }) (digits (pos 127475487839820))

abbrev pub bowl_far : Symbols → Chain
bowl_far = bowl_chain (record { num = pos 3; less = 1 }) (record { num = pos 9; less = 39 }) (digits (pos 1147279390558377))
