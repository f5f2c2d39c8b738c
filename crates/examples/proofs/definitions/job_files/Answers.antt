use Rattle.examples.proofs.JobFiles.{job_faults, read_job, most_rays, box_faults, read_box}
use Rattle.examples.proofs.definitions.job_files.Goals as goal

pub returns-clause-faults : goal.returns-clause-faults
returns-clause-faults c = job_faults

pub returns-clause-job : goal.returns-clause-job
returns-clause-job c = read_job

pub returns-clause-most : goal.returns-clause-most
returns-clause-most c = most_rays

pub returns-clause-box_faults : goal.returns-clause-box_faults
returns-clause-box_faults c = box_faults

pub returns-clause-box_read : goal.returns-clause-box_read
returns-clause-box_read c = read_box
