use Rattle.std.proofs.Common.{◌≡◌, ◌++◌, ◌∷◌, [], decimal, string_bytes, append_assoc, sym, ap, ◌∙◌}
use Rattle.serde_json.specs.Find.{get_member}
use Rattle.serde_json.specs.View.{members_view}
use Rattle.serde_json.proofs.Views.{Entry, member_later}
use Rattle.ep_pool.proofs.Reading.{nearer_found}
use Rattle.ep_pool.proofs.from_json.first_beyond.Goals as goal

pub loop-key-preserved : goal.loop-key-preserved
loop-key-preserved c =
    let l = c.loop-key in
    let done = l.invariant.walked.0 in
    let e : Entry = (c.in-Some.key.now, c.in-Some._value.now) in
    let left = c.next.new.self in
    let steps : l.key-iterator ≡ e ∷ left = c.in-Some.ensures.steps in
    let all : c.args.members.now.entries ≡ done ++ e ∷ left = l.invariant.walked.1 ∙ ap (λ es. done ++ es) steps in
    let named : c.as_str.result.now ≡ string_bytes e.0 = c.as_str.ensures.value in record {
      walked = (done ++ e ∷ [], all ∙ sym (append_assoc done (e ∷ []) left));
      found = nearer_found c.args.members.now.entries done left e c.as_str.result.now c.args.next l.least c.nearer-least.result all named l.invariant.found c.nearer-least.ensures.found;
      passed = λ k beyond small before.
          (let p = c.nearer-least.ensures.passed k beyond small before in
          l.invariant.passed k beyond small p.0
          ∙ (ap (λ es. get_member (decimal k) (members_view es)) steps ∙ member_later (decimal k) e left (λ is. p.1 (named ∙ sym is))));
    }
