use Rattle.run_states.proofs.Decoding as decoding
use Rattle.run_states.proofs.laws.codes_fix_keys.Goals as goal

pub returns : goal.returns
returns c = decoding.codes_fix_keys
