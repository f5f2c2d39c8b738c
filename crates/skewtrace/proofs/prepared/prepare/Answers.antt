use Rattle.std.proofs.Common.{◌≡◌, ◌<◌, ◌≤◌, [], ◌∷◌, ◌++◌, length, length-append, refl, ◌∙◌, add-one, arith}
use Rattle.std.specs.List.{insert}
use Rattle.std.specs.Prelude.{vec_len, vec_capacity}
use Rattle.skewtrace.specs.Filled.{faces_first}
use Rattle.skewtrace.proofs.Counts.{well_count, behind_image}
use Rattle.skewtrace.proofs.Fillings.{insert-end, kept_items, one_more, all_there}
use Rattle.lensmodel.specs.Setup.Values.{image}
use Rattle.skewtrace.proofs.prepared.prepare.Goals as goal

pub loop-j-init : goal.loop-j-init
loop-j-init g c = (rw c.requires.empty (faces_first g.T.Arith.ops g.T.Arith.SCALE c.args.s.now), rw c.requires.empty refl, refl, refl)

pub loop-j-preserved : goal.loop-j-preserved
loop-j-preserved g c =
    let n = well_count c.args.s.now c.requires.well in
    let xs = c.loop-j.faces.items in
    let f = c.kept-face.result in
    let high : c.loop-j.j ≤ image c.args.s.now = omega arith in
    let low : 1 ≤ c.loop-j.j = omega arith in
    let at : c.len.result ≡ length xs = c.len.ensures ∙ c.loop-j.faces.ok.0 in
    let room : vec_len c.loop-j.faces < vec_capacity c.loop-j.faces = omega arith in
    let items : c.insert.new.self.items ≡ xs ++ f ∷ [] =
    c.insert.ensures.items ∙ kept_items c.insert.result (insert xs c.len.result f) xs (c.insert.ensures.succeeds room) ∙ rw at (insert-end xs f) in (
      rw (items, add-one)
          (one_more g.T.Arith.ops g.T.Arith.SCALE c.args.s.now xs f c.loop-j.j low high c.loop-j.invariant.0 (c.kept-face.ensures ∙ c.face.ensures.exact)),
      rw items (simp length-append (omega arith)),
      omega arith,
      (c.insert.ensures.in_place room).1.0 ∙ c.loop-j.invariant.3,
    )

pub returns-clause-list : goal.returns-clause-list
returns-clause-list g c =
    let last = behind_image c.args.s.now c.loop-j.j c.len-j-end.result c.requires.well c.len-j-end.ensures.value c.loop-j.auto.j-end c.loop-j-test.false in
    all_there g.T.Arith.ops g.T.Arith.SCALE c.args.s.now c.loop-j.faces.items c.loop-j.j last c.loop-j.invariant.0

pub returns-clause-ticks : goal.returns-clause-ticks
returns-clause-ticks g c =
    let last = behind_image c.args.s.now c.loop-j.j c.len-j-end.result c.requires.well c.len-j-end.ensures.value c.loop-j.auto.j-end c.loop-j-test.false in
    let t = c.loop-j.invariant.2 in
    omega (arith, last)
