use Rattle.history.proofs.Facts.{every_history}
use Rattle.history.proofs.histories_keep_the_laws.Goals as goal

pub returns : goal.returns
returns c = every_history
