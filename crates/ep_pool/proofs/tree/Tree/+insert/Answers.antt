use Rattle.std.proofs.Common.{◌≡◌, ◌<◌, ◌∷◌, ◌++◌, true, false, length, sym, ap, ap₂, ◌∙◌, arith}
use Rattle.ep_attr.specs.Attrs.{pairs_of}
use Rattle.ep_pool.specs.Index.{is_below, pair_at, pair_cmp, placed}
use Rattle.ep_pool.specs.Pool.{pair_of}
use Rattle.ep_pool.specs.Tree.{numbers}
use Rattle.ep_pool.proofs.Index.{pair_of_at, top, placed_left, placed_right}
use Rattle.std.specs.Ordering.{is_lt}
use Rattle.ep_pool.specs.declared.tree.Fork.{Fork}
use Rattle.ep_pool.proofs.tree.Tree.+insert.Goals as goal
use Rattle.ep_pool.proofs.tree.Tree.+insert.Goals.{then-is_lt, else-is_lt}

pub bounds-attrs-deref : goal.bounds-attrs-deref
bounds-attrs-deref t c =
    let f = c.in-Fork.here.value in
    let ps = pairs_of c.args.attrs.now in
    let e : c.args.self.now ≡ f.left ++ f.number ∷ f.right = sym c.self.view_is ∙ ap numbers c.in-Fork.is in
    let here = top ps (length c.args.attrs.now) c.args.self.now f.left f.number f.right e c.requires.within c.requires.rising in
    rw c.deref.ensures here.here

pub insert-requires : goal.insert-requires
insert-requires t c =
    let f = c.in-Fork.here.value in
    let ps = pairs_of c.args.attrs.now in
    let e : c.args.self.now ≡ f.left ++ f.number ∷ f.right = sym c.self.view_is ∙ ap numbers c.in-Fork.is in
    let here = top ps (length c.args.attrs.now) c.args.self.now f.left f.number f.right e c.requires.within c.requires.rising in
    rw c.deref_mut.ensures.value (omega (arith, here.left_shorter, c.decreases), (c.requires.there, (here.left_within, here.left_rising)))

pub insert-requires-else-is_lt : goal.insert-requires-else-is_lt
insert-requires-else-is_lt t c =
    let f = c.in-Fork.here.value in
    let ps = pairs_of c.args.attrs.now in
    let e : c.args.self.now ≡ f.left ++ f.number ∷ f.right = sym c.self.view_is ∙ ap numbers c.in-Fork.is in
    let here = top ps (length c.args.attrs.now) c.args.self.now f.left f.number f.right e c.requires.within c.requires.rising in
    rw c.deref_mut-else-is_lt.ensures.value (omega (arith, here.right_shorter, c.decreases), (c.requires.there, (here.right_within, here.right_rising)))

pub returns-after-is_lt : goal.returns-after-is_lt
returns-after-is_lt t c =
    let f = c.in-Fork.here.value in
    let ps = pairs_of c.args.attrs.now in
    let e : c.args.self.now ≡ f.left ++ f.number ∷ f.right = sym c.self.view_is ∙ ap numbers c.in-Fork.is in
    let here = top ps (length c.args.attrs.now) c.args.self.now f.left f.number f.right e c.requires.within c.requires.rising in
    let pair_is : pair_of c.index-attrs-deref.result ≡ pair_at ps f.number =
    pair_of_at c.args.attrs.now c.deref.result.now.number c.index-attrs-deref.result (rw c.deref.ensures here.here) c.index-attrs-deref.is ∙ ap (λ (g : Fork). pair_at ps g.number) c.deref.ensures in
    let new_is = pair_of_at c.args.attrs.now c.args.number c.index-attrs-number.result c.requires.there c.index-attrs-number.is in
    let test_is : c.is_lt.result ≡ is_below ps c.args.number f.number = c.is_lt.ensures ∙ ap is_lt (c.order.ensures ∙ ap₂ pair_cmp new_is pair_is) in
    c.balance.ensures
    ∙ elim c.if-is_lt.branch [
      | then-is_lt w ↦
          let left_is : w.insert.new.self ≡ placed ps c.args.number f.left = rw w.deref_mut.ensures.value at w.insert.ensures in
          rw (w.self-inside-is, w.deref_mut.ensures.value) (ap (λ l. l ++ f.number ∷ f.right) left_is ∙ sym (placed_left ps c.args.number f.left f.number f.right (sym test_is ∙ w.if-is_lt.true)) ∙ ap (placed ps c.args.number) (sym e))
      | else-is_lt w ↦
          let right_is : w.insert-else-is_lt.new.self ≡ placed ps c.args.number f.right = rw w.deref_mut-else-is_lt.ensures.value at w.insert-else-is_lt.ensures in
          rw (w.self-inside-is, w.deref_mut-else-is_lt.ensures.value) (ap (λ r. f.left ++ f.number ∷ r) right_is ∙ sym (placed_right ps c.args.number f.left f.number f.right here.rising (sym test_is ∙ w.if-is_lt.false)) ∙ ap (placed ps c.args.number) (sym e))
    ]
