-- Why `session::is_ignored` meets its contract.
use Rattle.std.proofs.Common.{ap, ◌∙◌, eqb}
use Rattle.std.specs.Option.{unwrap_or}
use Rattle.pagebook.proofs.Ignored.{ignored_by_mark}
use Rattle.pagebook.proofs.session.is_ignored.Goals as goal

pub returns : goal.returns
returns c = ap (λ b. eqb b 35) c.unwrap_or.ensures ∙ ap (λ o. eqb (unwrap_or o 35) 35) c.first_mark.ensures ∙ ignored_by_mark c.args.line.now
