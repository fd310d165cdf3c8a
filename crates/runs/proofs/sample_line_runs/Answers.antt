use Rattle.runs.proofs.sample_line_runs.Goals as goal
use Rattle.runs.proofs.SampleSound.{sample-sound}
use Rattle.runs.proofs.Sample.{sample-runs}

pub returns : goal.returns
returns c = record { sound = sample-sound; steps = sample-runs }
