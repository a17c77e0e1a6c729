use Rattle.std.specs.Prelude.{Ok, Some, if◌then◌else◌}
use Rattle.std.proofs.Common.{◌∙◌, sym, ap}
use Rattle.ep_groups.specs.Policy.{member_or}
use Rattle.ep_groups.proofs.grants.member_author.Goals as goal

pub returns-then-is_member : goal.returns-then-is_member
returns-then-is_member c = λ rest. ap (λ i. member_or c.args.group.now c.args.now i rest) c.in-Some.is ∙ ap (λ b. if b then Ok (Some c.in-Some.info.author) else rest) (sym c.is_member.ensures ∙ c.if-is_member.true)

pub returns-else-is_member : goal.returns-else-is_member
returns-else-is_member c = λ rest. ap (λ i. member_or c.args.group.now c.args.now i rest) c.in-Some.is ∙ ap (λ b. if b then Ok (Some c.in-Some.info.author) else rest) (sym c.is_member.ensures ∙ c.if-is_member.false)
