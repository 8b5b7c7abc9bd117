use Rattle.market.proofs.laws.sessions_are_sound.Goals as goal
use Rattle.market.proofs.Sessions.{every_session}

pub returns : goal.returns
returns c = every_session
