-- First-order values and Seidel sums of lenses of more surfaces: an asphere into glass, and behind it a conic, or a mirror and the
-- way back.
use Rattle.std.specs.Prelude.{◌≡◌, ℕ, ◌*◌, ◌^◌, pos, negsuc, true, [], ◌∷◌, Some}
use Rattle.fixdec.specs.Decimal.{Decimal}
use Rattle.fixdec.specs.declared.step.Step.TheVariants.{Val, Lost}
use Rattle.fixdec.specs.declared.step.Why.TheVariants.{Root, Range}
use Rattle.examples.specs.ComputedFolds.{decimal}
use Rattle.examples.specs.SmallLenses.{curved, whole_dec, tenths, interval}
use Rattle.examples.specs.Worked.{flat_name, flat_glass, far_object, setup_of}
use Rattle.lensmodel.specs.Paraxial.FirstOrderRows.{first_order}
use Rattle.lensmodel.specs.Paraxial.SeidelRows.{seidel_sums}
use Rattle.lensmodel.specs.Setup.Values.{zero_decimal, plane}
use Rattle.lensmodel.specs.declared.glass.Medium.TheVariants.{Air, Of}
use Rattle.lensmodel.specs.declared.paraxial.FirstOut.{FirstOut}
use Rattle.lensmodel.specs.declared.paraxial.SeidelOut.{SeidelOut}
use Rattle.lensmodel.specs.declared.setup.Setup.{Setup}
use Rattle.lensmodel.specs.declared.surface.Surface.{Surface}
use Rattle.lensmodel.specs.declared.surface.SurfaceKind.TheVariants.{EvenAsph}

-- an even asphere whose conic constant and first two coefficients aren't 0
abbrev pub front : Surface
front = record plane {
  kind = EvenAsph;
  curv = tenths (pos 1);
  conic = tenths (pos 5);
  thick = Some (whole_dec (pos 3));
  glass = Some flat_name;
  semi = Some (whole_dec (pos 5));
  a1 = decimal (pos 1) 2;
  a2 = decimal (pos 2) 3;
}

-- a conic: its coefficients aren't used
abbrev pub back : Surface
back = record plane { curv = decimal (negsuc 4) 2; conic = whole_dec (negsuc 1); thick = Some (decimal (pos 20) 0); a1 = whole_dec (pos 1); a2 = whole_dec (pos 1) }

-- a lens of both, whose stop is a given surface: 3 is the image
abbrev pub doublet : ℕ → Setup
doublet stop =
    let s = setup_of (far_object ∷ front ∷ back ∷ plane ∷ []) (Air ∷ Of flat_glass ∷ Air ∷ []) in
    record s { lens = record s.lens { stop = stop } }

-- the conic as a mirror, and the way back out of the glass
abbrev pub mangin : Setup
mangin =
    let surfaces = far_object ∷ front ∷ record back { thick = Some (whole_dec (negsuc 2)); mirror = true } ∷ curved (tenths (pos 1)) (decimal (negsuc 19) 0) ∷ plane ∷ [] in
    let s = setup_of surfaces (Air ∷ Of flat_glass ∷ Air ∷ Air ∷ []) in
    record s { lens = record s.lens { stop = 2 } }

-- a curvature past the cap, behind a glass that resonates at the wavelength
abbrev pub blocked : Setup
blocked =
    setup_of (far_object ∷ curved (whole_dec (pos (10 ^ 30))) (whole_dec (pos 4)) ∷ plane ∷ []) (Of (record flat_glass { formula = 2; c1 = decimal (pos 25) 2 }) ∷ Air ∷ [])

-- a ray at the height 2 with the slope 1/10, and the stop at the conic
abbrev pub doublet_out : FirstOut
doublet_out = record {
  scale = 15;
  efl = Val (interval (pos 12195121950885930) (pos 12195121951553094));
  bfl = Val (interval (pos 10731707316740241) (pos 10731707317406101));
  ffl = Val (interval (negsuc 11585365854007341) (negsuc 11585365853309718));
  front = Val (interval (pos 609756096878588) (pos 609756098243375));
  back = Val (interval (negsuc 1463414634812852) (negsuc 1463414633479828));
  enp = Val (interval (pos 2272727272714189) (pos 2272727272740355));
  trail = record { items = (Val (interval (pos 2000000000000000) (pos 2000000000000000)), Val (interval (negsuc 13333333334056) (negsuc 13333333332608))) ∷ (Val (interval (pos 1959999999996829) (pos 1960000000003173)), Val (interval (negsuc 69000000002202) (negsuc 68999999997795))) ∷ (Val (interval (pos 579999999951769) (pos 580000000048253)), Val (interval (negsuc 69000000002202) (negsuc 68999999997795))) ∷ [] };
}

abbrev pub DoubletFirst : Type 0
DoubletFirst = first_order (doublet 2) (whole_dec (pos 2)) (tenths (pos 1)) ≡ doublet_out

-- the object as a stop has no entrance pupil
abbrev pub StopAtObject : Type 0
StopAtObject = (first_order (doublet 0) (whole_dec (pos 2)) (tenths (pos 1))).enp ≡ Lost Root

-- the image as a stop, and a ray so high that a row of it is lost by range at scale 15
abbrev pub StopAtImage : Type 0
StopAtImage = first_order (doublet 3) (whole_dec (pos 2000)) (tenths (pos 1)) ≡ record {
  scale = 12;
  efl = Val (interval (pos 12195121950314) (pos 12195121952125));
  bfl = Val (interval (pos 10731707316190) (pos 10731707317956));
  ffl = Val (interval (negsuc 11585365854579) (negsuc 11585365852724));
  front = Val (interval (pos 609756095734) (pos 609756099400));
  back = Val (interval (negsuc 1463414635934) (negsuc 1463414632357));
  enp = Val (interval (negsuc 27631578952162) (negsuc 27631578942545));
  trail = record { items = (Val (interval (pos 2000000000000000) (pos 2000000000000000)), Val (interval (negsuc 79933333333547) (negsuc 79933333333118))) ∷ (Val (interval (pos 1760199999999355) (pos 1760200000000644)), Val (interval (negsuc 163905000000507) (negsuc 163904999999491))) ∷ (Val (interval (negsuc 1517900000010805) (negsuc 1517899999989194)), Val (interval (negsuc 163905000000507) (negsuc 163904999999491))) ∷ [] };
}

abbrev pub ManginFirst : Type 0
ManginFirst = first_order mangin (whole_dec (pos 2)) (tenths (pos 1)) ≡ record {
  scale = 15;
  efl = Val (interval (negsuc 4612546125553884) (negsuc 4612546125368623));
  bfl = Val (interval (negsuc 2287822878320081) (negsuc 2287822878137481));
  ffl = Val (interval (negsuc 2444649446568789) (negsuc 2444649446420130));
  front = Val (interval (pos 2167896678799834) (pos 2167896679133754));
  back = Val (interval (pos 2324723247048542) (pos 2324723247416403));
  enp = Val (interval (pos 2272727272714189) (pos 2272727272740355));
  trail = record { items = (Val (interval (pos 2000000000000000) (pos 2000000000000000)), Val (interval (negsuc 13333333334056) (negsuc 13333333332608))) ∷ (Val (interval (pos 1959999999996829) (pos 1960000000003173)), Val (interval (pos 209333333331530) (pos 209333333335136))) ∷ (Val (interval (pos 1331999999990421) (pos 1332000000009583)), Val (interval (pos 380599999995701) (pos 380600000004298))) ∷ (Val (interval (negsuc 6280000000096538) (negsuc 6279999999903436)), Val (interval (pos 380599999995701) (pos 380600000004298))) ∷ [] };
}

-- the curvature comes before the index: its cause is that of the values
abbrev pub BlockedFirst : Type 0
BlockedFirst = (first_order blocked (whole_dec (pos 1)) zero_decimal).efl ≡ Lost Range

-- rays whose rows are lost by range at two scales, at three, and at all
pub record HighRays : Type 0 where
  pub at_ninth : (first_order (doublet 2) (decimal (pos (2 * 10 ^ 6)) 0) zero_decimal).scale ≡ 9
  pub at_sixth : (first_order (doublet 2) (decimal (pos (2 * 10 ^ 9)) 0) zero_decimal).scale ≡ 6
  pub at_none : (first_order blocked (whole_dec (pos 1)) zero_decimal).scale ≡ 6

-- a marginal ray at the height 1 with the slope 1/10, and a chief ray at 1/2 with -1/5
abbrev pub doublet_sums : SeidelOut
doublet_sums = record {
  scale = 15;
  per = record { items = (record { s1 = Val (interval (pos 11865555554526) (pos 11865555556585)); s2 = Val (interval (pos 1410555554538) (pos 1410555556574)); s3 = Val (interval (pos 3583055554544) (pos 3583055556567)); s4 = Val (interval (pos 2499999998998) (pos 2500000001002)); s5 = Val (interval (negsuc 1630694445446) (negsuc 1630694443441)) }) ∷ (record { s1 = Val (interval (negsuc 161387161009) (negsuc 161387158989)); s2 = Val (interval (pos 42994918969) (pos 42994921031)); s3 = Val (interval (pos 279897958840) (pos 279897961160)); s4 = Val (interval (pos 1041666665646) (pos 1041666667688)); s5 = Val (interval (pos 7511672145501) (pos 7511672147833)) }) ∷ [] };
  whole = record { s1 = Val (interval (pos 11704168393516) (pos 11704168397595)); s2 = Val (interval (pos 1453550473507) (pos 1453550477605)); s3 = Val (interval (pos 3862953513384) (pos 3862953517727)); s4 = Val (interval (pos 3541666664644) (pos 3541666668690)); s5 = Val (interval (pos 5880977700054) (pos 5880977704391)) };
}

abbrev pub DoubletSums : Type 0
DoubletSums = seidel_sums (doublet 2) (whole_dec (pos 1)) (tenths (pos 1)) (tenths (pos 5)) (tenths (negsuc 1)) ≡ doublet_sums

-- a marginal ray at the height 20: its fourth power passes the cap at scale 15
abbrev pub HighSums : Type 0
HighSums = seidel_sums (doublet 2) (whole_dec (pos 20)) zero_decimal (whole_dec (pos 1)) (tenths (pos 1)) ≡ record {
  scale = 12;
  per = record { items = (record { s1 = Val (interval (pos 1323199999839615) (pos 1323200000160424)); s2 = Val (interval (pos 68719999991963) (pos 68720000008040)); s3 = Val (interval (pos 3670666666262) (pos 3670666667072)); s4 = Val (interval (pos 159999999995) (pos 160000000005)); s5 = Val (interval (pos 219711111088) (pos 219711111135)) }) ∷ (record { s1 = Val (interval (pos 111694950301398) (pos 111694950498564)); s2 = Val (interval (pos 1276408313764) (pos 1276408326194)); s3 = Val (interval (negsuc 12421611050) (negsuc 12421610282)); s4 = Val (interval (pos 66666666655) (pos 66666666679)); s5 = Val (interval (negsuc 1154013002) (negsuc 1154012951)) }) ∷ [] };
  whole = record { s1 = Val (interval (pos 1434894950141013) (pos 1434894950658988)); s2 = Val (interval (pos 69996408305727) (pos 69996408334234)); s3 = Val (interval (pos 3658245055211) (pos 3658245056789)); s4 = Val (interval (pos 226666666650) (pos 226666666684)); s5 = Val (interval (pos 218557098085) (pos 218557098183)) };
}

abbrev pub ManginSums : Type 0
ManginSums = seidel_sums mangin (whole_dec (pos 1)) (tenths (pos 1)) (tenths (pos 5)) (tenths (negsuc 1)) ≡ record {
  scale = 15;
  per = record { items = (record { s1 = Val (interval (pos 11865555554526) (pos 11865555556585)); s2 = Val (interval (pos 1410555554538) (pos 1410555556574)); s3 = Val (interval (pos 3583055554544) (pos 3583055556567)); s4 = Val (interval (pos 2499999998998) (pos 2500000001002)); s5 = Val (interval (negsuc 1630694445446) (negsuc 1630694443441)) }) ∷ (record { s1 = Val (interval (negsuc 889652161025) (negsuc 889652158973)); s2 = Val (interval (pos 705049918949) (pos 705049921051)); s3 = Val (interval (pos 4220112958841) (pos 4220112961159)); s4 = Val (interval (negsuc 4166666667746) (negsuc 4166666665585)); s5 = Val (interval (pos 311633812297) (pos 311633814370)) }) ∷ (record { s1 = Val (interval (pos 5606969021954) (pos 5606969024986)); s2 = Val (interval (pos 3880004431992) (pos 3880004434767)); s3 = Val (interval (pos 2684950520112) (pos 2684950522690)); s4 = Val (interval (pos 2083333332180) (pos 2083333334487)); s5 = Val (interval (pos 3299637007336) (pos 3299637009887)) }) ∷ [] };
  whole = record { s1 = Val (interval (pos 16582872415454) (pos 16582872422597)); s2 = Val (interval (pos 5995609905479) (pos 5995609912392)); s3 = Val (interval (pos 10488119033497) (pos 10488119040416)); s4 = Val (interval (pos 416666663431) (pos 416666669903)); s5 = Val (interval (pos 1980576374186) (pos 1980576380815)) };
}
