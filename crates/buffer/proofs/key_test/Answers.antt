use Rattle.buffer.proofs.Keys.{key_test_holds}
use Rattle.buffer.proofs.key_test.Goals as goal

pub returns : goal.returns
returns c = key_test_holds
