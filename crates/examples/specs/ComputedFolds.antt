-- A ray folded twice: through an even asphere into glass, back by a mirror in the glass, out of it, and forth by a mirror in air.
use Rattle.std.specs.Prelude.{ℕ, ℤ, pos, negsuc, neg_ℤ, true, [], ◌∷◌, List, Some}
use Rattle.fixdec.specs.Decimal.{Decimal}
use Rattle.examples.specs.ComputedRows.{Gives, place, headed, about, ones, tenths}
use Rattle.lensmodel.specs.Setup.Values.{plane}
use Rattle.examples.specs.Worked.{flat_name, flat_glass, far_object, setup_of}
use Rattle.examples.specs.WorkedRow.{span}
use Rattle.lensmodel.specs.declared.glass.Medium.TheVariants.{Air, Of}
use Rattle.lensmodel.specs.declared.launch.Launch.{Launch}
use Rattle.lensmodel.specs.declared.launch.Launch.TheVariants.{Plain}
use Rattle.lensmodel.specs.declared.row.Word.TheVariants.{Passes}
use Rattle.lensmodel.specs.declared.setup.Setup.{Setup}
use Rattle.lensmodel.specs.declared.surface.Surface.{Surface}
use Rattle.lensmodel.specs.declared.surface.SurfaceKind.TheVariants.{EvenAsph}
use Rattle.lensmodel.specs.declared.tolerance.Tol.{Tol}
use Rattle.lensmodel.specs.declared.tolerance.TolKind.TheVariants.{Curv, Thic, Indx}

-- m times ten to the power -k
abbrev pub decimal : ℤ → ℕ → Decimal
decimal m k = record { mant = m; exp = neg_ℤ (pos k) }

-- an even asphere into glass, with all eight coefficients, and a rim of 8
abbrev pub front_asphere : Surface
front_asphere = record plane {
  kind = EvenAsph;
  curv = decimal (pos 2) 2;
  conic = tenths 3;
  thick = Some (ones 3);
  glass = Some flat_name;
  semi = Some (ones 8);
  rim = true;
  a1 = decimal (pos 1) 3;
  a2 = decimal (pos 1) 5;
  a3 = decimal (neg_ℤ (pos 1)) 6;
  a4 = decimal (pos 5) 8;
  a5 = decimal (neg_ℤ (pos 1)) 9;
  a6 = decimal (pos 4) 11;
  a7 = decimal (neg_ℤ (pos 2)) 12;
  a8 = decimal (pos 5) 14;
}

-- an even asphere that reflects, without a rim
abbrev pub inner_mirror : Surface
inner_mirror = record plane {
  kind = EvenAsph;
  curv = decimal (neg_ℤ (pos 2)) 2;
  conic = decimal (neg_ℤ (pos 5)) 1;
  thick = Some (decimal (neg_ℤ (pos 3)) 0);
  semi = Some (ones 9);
  mirror = true;
  a1 = decimal (pos 1) 3;
  a2 = decimal (neg_ℤ (pos 1)) 5;
}

-- the conic by which the ray leaves the glass, backwards
abbrev pub back_conic : Surface
back_conic = record plane { curv = decimal (pos 3) 2; conic = tenths 2; thick = Some (decimal (neg_ℤ (pos 5)) 0) }

-- a mirror in air, which turns the ray forwards
abbrev pub outer_mirror : Surface
outer_mirror = record plane { curv = decimal (pos 4) 2; conic = decimal (neg_ℤ (pos 2)) 0; thick = Some (ones 4); mirror = true }

abbrev pub folded_setup : Setup
folded_setup =
    record (setup_of (far_object ∷ front_asphere ∷ inner_mirror ∷ back_conic ∷ outer_mirror ∷ plane ∷ []) (Air ∷ Of flat_glass ∷ Air ∷ Air ∷ Air ∷ [])) { width = ones 1 }

abbrev pub skew_ray : Launch
skew_ray = Plain (ones 3) (ones 4) (decimal (neg_ℤ (pos 5)) 2) (tenths 1)

-- its row at scale 6: N is below 0 between the mirrors
abbrev pub FoldedRay : Type 0
FoldedRay =
    Gives 6 folded_setup skew_ray Passes
    (headed (place (span (pos 25142523) (pos 25142623)) (span (pos 2985839) (pos 2985846)) (span (pos 4028311) (pos 4028318)) (span (pos 283137) (pos 283149)) (span (pos 284898) (pos 284916))) (span (negsuc 57697) (negsuc 57679)) (span (pos 33104) (pos 33127)) (span (pos 997740) (pos 997831))
    ∷ headed (place (span (pos 24975842) (pos 24977103)) (span (pos 2842095) (pos 2842179)) (span (pos 4110759) (pos 4110854)) (span (negsuc 231350) (negsuc 231326)) (span (pos 4021246) (pos 4021672))) (span (negsuc 164741) (negsuc 164669)) (span (negsuc 121717) (negsuc 121622)) (span (negsuc 979004) (negsuc 978654))
    ∷ headed (place (span (pos 20368522) (pos 20375282)) (span (pos 2427701) (pos 2428226)) (span (pos 3804575) (pos 3805128)) (span (pos 307226) (pos 307331)) (span (pos 7792392) (pos 7794377))) (span (negsuc 287112) (negsuc 286865)) (span (negsuc 245254) (negsuc 244905)) (span (negsuc 927145) (negsuc 925052))
    ∷ headed (place (span (pos 6589729) (pos 6629476)) (span (pos 821106) (pos 827180)) (span (pos 2432183) (pos 2438288)) (span (pos 131446) (pos 132243)) (span (pos 13374016) (pos 13389610))) (span (negsuc 345374) (negsuc 344516)) (span (negsuc 416969) (negsuc 415701)) (span (pos 837922) (pos 844645))
    ∷ place (span (pos 820258) (pos 884150)) (span (negsuc 773440) (negsuc 750408)) (span (pos 507095) (pos 534732)) (about 1) (span (pos 17953163) (pos 18006457))
    ∷ [])

-- tolerances on two curvatures, an index and a thickness
abbrev pub folded_box : List Tol
folded_box =
    (record { kind = Curv; surface = 1; delta = decimal (pos 1) 4 }) ∷ (record { kind = Indx; surface = 1; delta = decimal (pos 1) 3 })
    ∷ (record { kind = Thic; surface = 3; delta = decimal (pos 1) 2 }) ∷ (record { kind = Curv; surface = 4; delta = decimal (pos 2) 4 }) ∷ []

-- the row at scale 6 with this box
abbrev pub FoldedBox : Type 0
FoldedBox =
    Gives 6 (record folded_setup { toler = Some (record { list = record { items = folded_box } }) }) skew_ray Passes
    (headed (place (span (pos 25141806) (pos 25143308)) (span (pos 2985771) (pos 2985913)) (span (pos 4028178) (pos 4028448)) (span (pos 281850) (pos 284432)) (span (pos 283600) (pos 286210))) (span (negsuc 57835) (negsuc 57539)) (span (pos 32849) (pos 33389)) (span (pos 997630) (pos 997938))
    ∷ headed (place (span (pos 24968543) (pos 24984465)) (span (pos 2841696) (pos 2842576)) (span (pos 4110148) (pos 4111474)) (span (negsuc 231436) (negsuc 231244)) (span (pos 4017668) (pos 4025256))) (span (negsuc 164982) (negsuc 164450)) (span (negsuc 122106) (negsuc 121260)) (span (negsuc 979502) (negsuc 978208))
    ∷ headed (place (span (pos 20346914) (pos 20396380)) (span (pos 2426290) (pos 2429600)) (span (pos 3802638) (pos 3807022)) (span (pos 306888) (pos 307660)) (span (pos 7784351) (pos 7802229))) (span (negsuc 287933) (negsuc 286077)) (span (negsuc 246385) (negsuc 243813)) (span (negsuc 930299) (negsuc 922023))
    ∷ headed (place (span (pos 6482130) (pos 6736722)) (span (pos 805410) (pos 842878)) (span (pos 2415560) (pos 2454846)) (span (pos 128622) (pos 135058)) (span (pos 13333456) (pos 13429210))) (span (negsuc 347388) (negsuc 342546)) (span (negsuc 420114) (negsuc 412616)) (span (pos 827865) (pos 854827))
    ∷ place (span (pos 714936) (pos 988704)) (span (negsuc 815534) (negsuc 708222)) (span (pos 454270) (pos 587578)) (about 1) (span (pos 17857172) (pos 18100664))
    ∷ [])

-- the same with the residual 10^-4, a hundred units: each widening shows
abbrev pub FoldedCoarse : Type 0
FoldedCoarse =
    Gives 6 (record folded_setup { res = 4; width = ones 10 }) skew_ray Passes
    (headed (place (span (pos 25140336) (pos 25144803)) (span (pos 2985694) (pos 2985991)) (span (pos 4028147) (pos 4028481)) (span (pos 282906) (pos 283380)) (span (pos 284453) (pos 285361))) (span (negsuc 57971) (negsuc 57403)) (span (pos 32783) (pos 33450)) (span (pos 997059) (pos 998512))
    ∷ headed (place (span (pos 24958261) (pos 24994761)) (span (pos 2840883) (pos 2843396)) (span (pos 4109458) (pos 4112160)) (span (negsuc 231746) (negsuc 230930)) (span (pos 4016980) (pos 4025942))) (span (negsuc 165839) (negsuc 163564)) (span (negsuc 123152) (negsuc 120178)) (span (negsuc 981820) (negsuc 975834))
    ∷ headed (place (span (pos 20281457) (pos 20462584)) (span (pos 2421124) (pos 2434806)) (span (pos 3797317) (pos 3812388)) (span (pos 305855) (pos 308705)) (span (pos 7774273) (pos 7812601))) (span (negsuc 290191) (negsuc 283796)) (span (negsuc 249473) (negsuc 240700)) (span (negsuc 945328) (negsuc 906813))
    ∷ headed (place (span (pos 6184202) (pos 7037654)) (span (pos 759151) (pos 887016)) (span (pos 2368099) (pos 2500171)) (span (pos 123295) (pos 140447)) (span (pos 13238205) (pos 13531085))) (span (negsuc 354638) (negsuc 335376)) (span (negsuc 430469) (negsuc 402347)) (span (pos 778180) (pos 904374))
    ∷ place (span (pos 345950) (pos 1629053)) (span (negsuc 1007744) (negsuc 544091)) (span (pos 223415) (pos 783264)) (about 50) (span (pos 17505590) (pos 18513137))
    ∷ [])
