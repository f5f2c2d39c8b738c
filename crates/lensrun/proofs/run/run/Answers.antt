use Rattle.std.proofs.Common.{◌≡◌, Vec, Global, ℕ, List, map, sym, ◌∙◌, inl, inr}
use Rattle.lensio.specs.Count.{Rose}
use Rattle.lensrun.specs.Due.{due_answer}
use Rattle.lensrun.proofs.Deliveries as due
use Rattle.lensrun.proofs.run.run.Goals as goal

-- the words, byte by byte
said : List (Vec ℕ Global) → List (List ℕ)
said words = map (λ w. w.items) words

pub returns-clause-outcome : goal.returns-clause-outcome
unfolding said
returns-clause-outcome g c =
    due.due_if_delivered (g.F.Shelf.held c.args.shelf.now) (said c.args.words.now) c.gather-due.result c.deliver.result _ _ _ _
    c.gather-due.ensures.due c.deliver.ensures.delivers c.deliver.ensures.holds

pub returns-clause-front : goal.returns-clause-front
unfolding said
returns-clause-front g c =
    due.front_if_delivered (g.F.Shelf.held c.args.shelf.now) (said c.args.words.now) c.gather-due.result c.deliver.result _ _ _ _
    c.gather-due.ensures.due c.deliver.ensures.delivers
    (Rose (g.F.Shelf.faults c.args.shelf.now) (g.F.Shelf.faults c.gather-due.new.shelf))
    (λ is. c.gather-due.ensures.counts.read_fault (cc is)) c.deliver.ensures.nothing

pub returns-clause-read_fault_text : goal.returns-clause-read_fault_text
unfolding said
returns-clause-read_fault_text g c =
    due.read_fault_if_delivered (g.F.Shelf.held c.args.shelf.now) (said c.args.words.now) c.gather-due.result c.deliver.result _ _ _ _
    c.gather-due.ensures.due c.deliver.ensures.delivers

pub returns-clause-silent : goal.returns-clause-silent
unfolding said
returns-clause-silent g c =
    due.silent_if_delivered (g.F.Shelf.held c.args.shelf.now) (said c.args.words.now) c.gather-due.result c.deliver.result _ _ _ _
    c.gather-due.ensures.due c.deliver.ensures.delivers

pub returns-clause-steps : goal.returns-clause-steps
unfolding said
returns-clause-steps g c =
    due.prepares (g.F.Shelf.held c.args.shelf.now) (said c.args.words.now) c.gather-due.result c.deliver.result _ _ _ _
    c.gather-due.ensures.due c.deliver.ensures.delivers _ _ c.deliver.ensures.steps

pub returns-clause-no_steps : goal.returns-clause-no_steps
unfolding said
returns-clause-no_steps g c =
    due.no_report-no_steps (g.F.Shelf.held c.args.shelf.now) (said c.args.words.now) c.gather-due.result c.deliver.result _ _ _ _
    c.gather-due.ensures.due c.deliver.ensures.delivers _ _ c.deliver.ensures.steps

pub returns-clause-absent : goal.returns-clause-absent
unfolding said
returns-clause-absent g c =
    due.absent-counted (g.F.Shelf.held c.args.shelf.now) (said c.args.words.now) c.gather-due.result c.deliver.result _ _ _ _
    c.gather-due.ensures.due c.deliver.ensures.delivers _ _ _ _ _ _ _ c.gather-due.ensures.counts

pub returns-clause-read_fault : goal.returns-clause-read_fault
unfolding said
returns-clause-read_fault g c =
    due.read_fault-counted (g.F.Shelf.held c.args.shelf.now) (said c.args.words.now) c.gather-due.result c.deliver.result _ _ _ _
    c.gather-due.ensures.due c.deliver.ensures.delivers _ _ _ _ _ _ _ c.gather-due.ensures.counts

pub returns-clause-too_long : goal.returns-clause-too_long
unfolding said
returns-clause-too_long g c =
    due.too_long-counted (g.F.Shelf.held c.args.shelf.now) (said c.args.words.now) c.gather-due.result c.deliver.result _ _ _ _
    c.gather-due.ensures.due c.deliver.ensures.delivers _ _ _ _ _ _ _ c.gather-due.ensures.counts

pub returns-clause-too_long_where : goal.returns-clause-too_long_where
unfolding said
returns-clause-too_long_where g c =
    due.too_long-where (g.F.Shelf.held c.args.shelf.now) (said c.args.words.now) c.gather-due.result c.deliver.result _ _ _ _
    c.gather-due.ensures.due c.deliver.ensures.delivers _ _ _ _ _ _ _ c.gather-due.ensures.counts

pub returns-clause-calm : goal.returns-clause-calm
unfolding said
returns-clause-calm g c =
    due.calm-counted (g.F.Shelf.held c.args.shelf.now) (said c.args.words.now) c.gather-due.result c.deliver.result _ _ _ _
    c.gather-due.ensures.due c.deliver.ensures.delivers _ _ _ _ _ _ _ c.gather-due.ensures.counts

pub returns-clause-found : goal.returns-clause-found
unfolding said
returns-clause-found g c =
    due.found-counted (g.F.Shelf.held c.args.shelf.now) (said c.args.words.now) c.gather-due.result c.deliver.result _ _ _ _
    c.gather-due.ensures.due c.deliver.ensures.delivers _ _ _ _ _ _ _ c.gather-due.ensures.counts

pub returns-clause-complete : goal.returns-clause-complete
unfolding said
returns-clause-complete g c =
    λ present calm sound.
    due.complete (g.F.Shelf.held c.args.shelf.now) (said c.args.words.now) c.gather-due.result c.deliver.result _ _ _ _
    c.gather-due.ensures.due c.deliver.ensures.delivers _ _ _ _ _ _ _ c.gather-due.ensures.counts calm sound
