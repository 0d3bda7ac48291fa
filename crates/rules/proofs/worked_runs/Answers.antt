use Rattle.std.proofs.Common.{refl}
use Rattle.rules.proofs.Orders.{order_kept}
use Rattle.rules.proofs.Penalties.{penalties-one_percent}
use Rattle.rules.proofs.Questions.{law}
use Rattle.rules.proofs.Sizes.{postings_fit}
use Rattle.rules.proofs.worked_runs.Goals as goal

pub returns : goal.returns
returns c = record { count = refl; stated = refl; law = law; order = order_kept; penalties = penalties-one_percent; postings = postings_fit }
