use Rattle.runs.proofs.Secure.{secure-close}
use Rattle.runtime.proofs.state.Core.close.Goals as goal

pub invariant_of-self : goal.invariant_of-self
invariant_of-self c =
    let was = c.args.self.now in record { secure = secure-close _ _ was.secure; known = was.known; inlets = was.inlets; actuators = was.actuators }
