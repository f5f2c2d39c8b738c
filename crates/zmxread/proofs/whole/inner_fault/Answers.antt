use Rattle.std.proofs.Common.{◌≡◌, ◌∙◌, sym, ap, true, false, add-one, rules}
use Rattle.std.specs.Prelude.{is_some, suc, ◌-◌, length, drop}
use Rattle.lensmodel.specs.Files.Causes.{first_fault}
use Rattle.lensmodel.specs.Setup.WholeFaults.{faults_from, surface_faults}
use Rattle.zmxread.proofs.FirstFaults.{from-here, first-some, first-none}
use Rattle.zmxread.proofs.whole.inner_fault.Goals as goal

pub returns-then-is_some : goal.returns-then-is_some
returns-then-is_some c =
    let xs = c.args.surfaces.now in
    let image = length xs - 1 in
    let j = c.loop-j.j in
    let f = c.index-surfaces-j.result in
    let found : is_some c.surface_fault-fault.result ≡ true = search rules in
    sym (c.loop-j.invariant ∙ from-here image j xs f c.loop-j-test.true c.index-surfaces-j.is
    ∙ first-some c.surface_fault-fault.result (first_fault (surface_faults image j f)) (first_fault (faults_from image (suc j) (drop (suc j) xs))) c.surface_fault-fault.ensures found)

pub loop-j-preserved : goal.loop-j-preserved
loop-j-preserved c =
    let xs = c.args.surfaces.now in
    let image = length xs - 1 in
    let j = c.loop-j.j in
    let f = c.index-surfaces-j.result in
    let passed : is_some c.surface_fault-fault.result ≡ false = search rules in
    c.loop-j.invariant ∙ from-here image j xs f c.loop-j-test.true c.index-surfaces-j.is
    ∙ first-none c.surface_fault-fault.result (first_fault (surface_faults image j f)) (first_fault (faults_from image (suc j) (drop (suc j) xs))) c.surface_fault-fault.ensures passed
    ∙ ap (λ n. first_fault (faults_from image n (drop n xs))) (sym (add-one j))
