use Rattle.market.proofs.laws.legs_have_a_normal_form.Goals as goal
use Rattle.market.proofs.NormalForms.{every_normal_form}

pub returns : goal.returns
returns c = every_normal_form
