use Rattle.std.proofs.Common.{◌≡◌, ℕ, List, [], ◌+◌, ◌<◌, length, take, subst, ◌∙◌, arith}
use Rattle.std.specs.Prelude.{slice_index_or, Some, None}
use Rattle.std.proofs.lemmas.Result.{err_from_is_err_and}
use Rattle.lensmodel.specs.Files.Records.{Words}
use Rattle.records.specs.Remarks.{each_line, line_words}
use Rattle.records.proofs.Walks.{words_along, offence_along, NoneBefore-next, taken, offends, all_taken, none_offends}
use Rattle.records.proofs.walk.read_lines.Goals as goal

pub loop-i-preserved : goal.loop-i-preserved
loop-i-preserved g c =
    let r = g.R.LineReader in
    let k = c.loop-i.invariant in
    let lines = c.args.text.now in
    let below : c.loop-i.i < length lines = omega arith in
    let is : c.new-line.result ≡ line_words r.REMARKS (slice_index_or lines c.loop-i.i []) =
    words_along c.REMARKS.result r.REMARKS (slice_index_or lines c.loop-i.i []) c.new-line.result c.REMARKS.ensures (subst (λ (units : List ℕ). c.new-line.result ≡ line_words c.REMARKS.result units) c.line-units.ensures.line c.new-line.ensures) in
    let o = r.offence c.args.reader.now in
    let p = c.in_ok-take.ensures.passed (take c.loop-i.i (each_line r.REMARKS lines)) k.at in
    record {
      within = omega arith;
      sound = NoneBefore-next o r.REMARKS lines c.loop-i.i c.new-line.result below is k.sound
          (offence_along (r.offence c.loop-i.reader) o None (c.loop-i.i + 1) (take c.loop-i.i (each_line r.REMARKS lines)) c.new-line.result k.same p.0);
      same = c.in_ok-take.ensures.same ∙ k.same;
      at = subst (λ (ws : List Words). r.IsAt ws c.take.new.self) (taken r.REMARKS lines c.loop-i.i c.new-line.result below is) p.1;
    }

pub returns-in_err-take-clause-fault : goal.returns-in_err-take-clause-fault
returns-in_err-take-clause-fault g c =
    let r = g.R.LineReader in
    let k = c.loop-i.invariant in
    let lines = c.args.text.now in
    let below : c.loop-i.i < length lines = omega arith in
    let is : c.new-line.result ≡ line_words r.REMARKS (slice_index_or lines c.loop-i.i []) =
    words_along c.REMARKS.result r.REMARKS (slice_index_or lines c.loop-i.i []) c.new-line.result c.REMARKS.ensures (subst (λ (units : List ℕ). c.new-line.result ≡ line_words c.REMARKS.result units) c.line-units.ensures.line c.new-line.ensures) in
    let p = err_from_is_err_and c.from_residual.result c.from_residual.ensures.1 in
    rw (p.1, p.2)
    (λ own. offends (r.offence c.args.reader.now) r.REMARKS lines c.loop-i.i c.new-line.result c.in_err-take.field-0.0 below is k.sound
    (offence_along (r.offence c.loop-i.reader) (r.offence c.args.reader.now) (Some c.in_err-take.field-0.0) (c.loop-i.i + 1) (take c.loop-i.i (each_line r.REMARKS lines)) c.new-line.result k.same
    (c.in_err-take.ensures.fault own (take c.loop-i.i (each_line r.REMARKS lines)) k.at)))

pub returns-clause-sound : goal.returns-clause-sound
returns-clause-sound g c =
    let r = g.R.LineReader in
    let k = c.loop-i.invariant in
    none_offends (r.offence c.args.reader.now) r.REMARKS c.args.text.now c.loop-i.i (omega arith) k.sound

pub returns-clause-taken : goal.returns-clause-taken
returns-clause-taken g c =
    let r = g.R.LineReader in
    let k = c.loop-i.invariant in
    subst (λ (ws : List Words). r.IsAt ws c.loop-i.reader) (all_taken r.REMARKS c.args.text.now c.loop-i.i (omega arith)) k.at
