use Rattle.self_heal.proofs.JobRequests.{requests_go_to_the_job}
use Rattle.self_heal.proofs.laws.requests_go_to_the_job.Goals as goal

pub returns : goal.returns
returns c = requests_go_to_the_job
