use Rattle.std.proofs.Common.{◌+◌, ◌%◌, [], ◌∷◌, ◌++◌, ap, ◌∙◌, arith}
use Rattle.std.proofs.lemmas.Result.{on_ok_weaker}
use Rattle.console.proofs.Appends.{last_digit, one_digit}
use Rattle.console.proofs.text.+put_decimal.Goals as goal
use Rattle.console.proofs.text.+put_decimal.Goals.{then-n-ge10+in_ok-put_decimal, else-n-ge10}

pub returns : goal.returns
returns t c = elim c.if-n-ge10.branch [
  | then-n-ge10+in_ok-put_decimal w ↦
      on_ok_weaker c.put.result (last_digit c.args.line.now.items c.args.n (omega arith) w.if-n-ge10.true (ap (λ l. l.items) w.line-is ∙ w.in_ok-put_decimal.ensures)) c.put.ensures
  | else-n-ge10 w ↦
      on_ok_weaker c.put.result (λ e. one_digit c.args.line.now.items c.args.n w.if-n-ge10.false (e ∙ ap (λ l. l.items ++ ((48 + c.args.n % 10) ∷ [])) w.line-is)) c.put.ensures
]
