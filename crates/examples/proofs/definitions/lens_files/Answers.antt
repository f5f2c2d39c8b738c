use Rattle.examples.proofs.LensFiles.{line_faults, whole_faults, read_lens}
use Rattle.examples.proofs.definitions.lens_files.Goals as goal

pub returns-clause-lines : goal.returns-clause-lines
returns-clause-lines c = line_faults

pub returns-clause-whole : goal.returns-clause-whole
returns-clause-whole c = whole_faults

pub returns-clause-lens : goal.returns-clause-lens
returns-clause-lens c = read_lens
