use Rattle.std.proofs.Common.{◌≡◌, ◌+◌, ◌++◌, ◌∷◌, [], sym, ap, subst, ◌∙◌, arith}
use Rattle.std.specs.VecDeque.{deque_len}
use Rattle.ep_cs.specs.Edit.{apply}
use Rattle.ep_cs.specs.Fits.{Fits}
use Rattle.ep_recent.specs.Recent.{LastRevs, head_of, count_of}
use Rattle.ep_recent.proofs.Led.{IsHead}
use Rattle.ep_recent.proofs.Told.{entries_more, push_led, push_last, count_held}
use Rattle.ep_recent.proofs.recent.Recent.push.Goals as goal

pub invariant_of-self : goal.invariant_of-self
invariant_of-self c =
    let is = c.self.inside in
    let before : IsHead c.kept_before-before.result is.head = subst (IsHead c.kept_before-before.result) c.replace.ensures.value c.kept_before-before.ensures in
    let fits = subst (λ (k : LastRevs). Fits c.args.rev.change (head_of k)) (sym c.self.view_is) c.requires.fits in
    let doc = subst (λ (k : LastRevs). c.args.doc ≡ apply c.args.rev.change.edit (head_of k)) (sym c.self.view_is) c.requires.doc in
    let count : is.first + deque_len is.kept ≡ count_of c.args.self.now = count_held is _ c.self.view_is in
    let few = c.requires.few in
    record {
      led = push_led is.kept.items c.push_back_reserved.new.self.items is.head c.kept_before-before.result c.replace.new.dest c.args.rev c.args.doc c.push_back_reserved.ensures.items c.self.invariant.led before fits doc c.replace.ensures.after;
      few = omega (arith, count, few, c.push_back_reserved.ensures.len);
    }

pub returns-clause-last : goal.returns-clause-last
returns-clause-last c vs h =
    let is = c.self.inside in
    let same = c.self.view_is in
    let last = c.kept_before-before.result in
    let kept = entries_more is.kept.items c.push_back_reserved.new.self.items c.args.rev last c.push_back_reserved.ensures.items ∙ ap (λ (k : LastRevs). k.kept ++ (c.args.rev, last) ∷ []) same in
    let before : IsHead last c.args.self.now.head = subst (IsHead last) (c.replace.ensures.value ∙ ap (λ (k : LastRevs). k.head) same) c.kept_before-before.ensures in
    push_last c.args.self.now _ vs c.args.rev last c.args.doc (ap (λ (k : LastRevs). k.first) same) kept c.replace.ensures.after before c.requires.doc h

pub returns-clause-kept : goal.returns-clause-kept
returns-clause-kept c =
    let is = c.self.inside in
    let last = c.kept_before-before.result in
    (last, entries_more is.kept.items c.push_back_reserved.new.self.items c.args.rev last c.push_back_reserved.ensures.items ∙ ap (λ (k : LastRevs). k.kept ++ (c.args.rev, last) ∷ []) c.self.view_is)
