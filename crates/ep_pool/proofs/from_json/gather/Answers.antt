use Rattle.std.proofs.Common.{◌≡◌, ◌<◌, ◌≤◌, ◌++◌, ◌∷◌, [], ℕ, Some, length, slice_get, length-append, refl, inr, sym, ap, ◌∙◌, subst, arith, rules}
use Rattle.serde_json.specs.View.{view}
use Rattle.ep_pool.specs.Pool.{pair_of, number_of}
use Rattle.ep_pool.specs.Read.{AreTexts, IsLeast, entry_in}
use Rattle.ep_pool.proofs.Gathering.{entries_more, put_new, twice_at}
use Rattle.ep_pool.proofs.Texts.{texts_push}
use Rattle.ep_pool.proofs.from_json.gather.Goals as goal

pub returns-then-put-n-clause-bad : goal.returns-then-put-n-clause-bad
returns-then-put-n-clause-bad c =
    let l = c.loop-n in
    let a = view c.args.attribs.now in
    let p = pair_of c.in_ok-attr_of.field-0 in
    let e = rw c.unwrap.ensures at c.entry.ensures in
    let number : c.from-number.result ≡ l.n = search rules in
    let here : entry_in a l.n ≡ Some p = ap (entry_in a) (sym number) ∙ sym e ∙ ap Some (sym c.in_ok-attr_of.ensures.pair) in
    let least = twice_at (entry_in a) l.pool.pairs l.n c.put.result p l.invariant.len l.invariant.entries l.pool.distinct here c.put.ensures.number c.if-put-n.true in
    let below : c.from-number.result < c.args.next = omega (arith, number, c.loop-n-test.true, c.in-Ok.ensures) in
    inr (c.from-number.result, refl, below, rw number least)

pub loop-n-preserved : goal.loop-n-preserved
loop-n-preserved c =
    let l = c.loop-n in
    let a = view c.args.attribs.now in
    let p = pair_of c.in_ok-attr_of.field-0 in
    let e = rw c.unwrap.ensures at c.entry.ensures in
    let number : c.from-number.result ≡ l.n = search rules in
    let here : entry_in a l.n ≡ Some p = ap (entry_in a) (sym number) ∙ sym e ∙ ap Some (sym c.in_ok-attr_of.ensures.pair) in
    let beyond : length l.pool.pairs ≤ number_of l.pool.pairs p = omega (arith, l.invariant.len, c.put.ensures.number, c.if-put-n.false) in
    let new : c.put.new.self.pairs ≡ l.pool.pairs ++ p ∷ [] = c.put.ensures.pairs ∙ put_new l.pool.pairs p beyond in record {
      len = ap length new ∙ omega (arith, length-append l.pool.pairs (p ∷ []), l.invariant.len);
      room = omega (arith, l.invariant.room, c.put.ensures.spare);
      texts = subst AreTexts (sym new) (texts_push l.pool.pairs p l.invariant.texts c.in_ok-attr_of.ensures.texts.0 c.in_ok-attr_of.ensures.texts.1);
      entries = λ k below. (entries_more (entry_in a) l.pool.pairs l.n p l.invariant.len l.invariant.entries here k below ∙ ap (λ ps. slice_get ps k) (sym new));
    }
