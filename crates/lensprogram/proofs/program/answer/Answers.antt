use Rattle.std.proofs.Common.{◌∙◌, inl}
use Rattle.lensio.specs.TakenLaws.{Takes-nil}
use Rattle.lensprogram.proofs.Wanting.{ends_memory, complete_memory}
use Rattle.lensprogram.proofs.program.answer.Goals as goal

pub returns-clause-outcome : goal.returns-clause-outcome
returns-clause-outcome g c = ends_memory _ c.from-in-Err.result (c.from-in-Err.ensures ∙ c.code-in-Err.ensures) (λ decided. absurd decided)

pub returns-clause-absent : goal.returns-clause-absent
returns-clause-absent g c = ends_memory _ c.from-in-Err.result (c.from-in-Err.ensures ∙ c.code-in-Err.ensures) (λ is. absurd (cc is))

pub returns-clause-read_fault : goal.returns-clause-read_fault
returns-clause-read_fault g c = ends_memory _ c.from-in-Err.result (c.from-in-Err.ensures ∙ c.code-in-Err.ensures) (λ is. absurd (cc is))

pub returns-clause-too_long : goal.returns-clause-too_long
returns-clause-too_long g c = ends_memory _ c.from-in-Err.result (c.from-in-Err.ensures ∙ c.code-in-Err.ensures) (λ is. absurd (cc is))

pub returns-clause-write_fault : goal.returns-clause-write_fault
returns-clause-write_fault g c = ends_memory _ c.from-in-Err.result (c.from-in-Err.ensures ∙ c.code-in-Err.ensures) (λ is. absurd (cc is))

pub returns-clause-silent : goal.returns-clause-silent
returns-clause-silent g c = ends_memory _ c.from-in-Err.result (c.from-in-Err.ensures ∙ c.code-in-Err.ensures) (λ _. inl (Takes-nil _))

pub returns-clause-complete : goal.returns-clause-complete
returns-clause-complete g c =
    ends_memory _ c.from-in-Err.result (c.from-in-Err.ensures ∙ c.code-in-Err.ensures)
    (λ _ _ _. complete_memory (g.F.Shelf.held c.args.shelf.now) _)
