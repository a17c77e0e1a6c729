use Rattle.std.proofs.Common.{◌≡◌, ◌<◌, ◌∷◌, ◌++◌, Less, Equal, Greater, length, sym, ap, ◌∙◌, arith}
use Rattle.ep_attr.specs.Attrs.{pairs_of}
use Rattle.ep_pool.specs.Index.{number_at, pair_at, pair_cmp}
use Rattle.ep_pool.specs.Pool.{pair_of}
use Rattle.ep_pool.specs.Tree.{numbers}
use Rattle.ep_pool.proofs.Index.{pair_of_at, top, number_left, number_right, number_here}
use Rattle.ep_pool.specs.declared.tree.Fork.{Fork}
use Rattle.ep_pool.proofs.tree.Tree.+find.Goals as goal

pub bounds-attrs-deref : goal.bounds-attrs-deref
bounds-attrs-deref t c =
    let f = c.in-Fork.fork.value in
    let ps = pairs_of c.args.attrs.now in
    let e : c.args.self.now ≡ f.left ++ f.number ∷ f.right = sym c.self.view_is ∙ ap numbers c.in-Fork.is in
    let here = top ps (length c.args.attrs.now) c.args.self.now f.left f.number f.right e c.requires.within c.requires.rising in
    rw c.deref.ensures here.here

pub find-requires : goal.find-requires
find-requires t c =
    let f = c.in-Fork.fork.value in
    let ps = pairs_of c.args.attrs.now in
    let e : c.args.self.now ≡ f.left ++ f.number ∷ f.right = sym c.self.view_is ∙ ap numbers c.in-Fork.is in
    let here = top ps (length c.args.attrs.now) c.args.self.now f.left f.number f.right e c.requires.within c.requires.rising in
    rw c.deref-in-Less.ensures (omega (arith, here.left_shorter, c.decreases), (here.left_within, here.left_rising))

pub find-requires-in-Greater : goal.find-requires-in-Greater
find-requires-in-Greater t c =
    let f = c.in-Fork.fork.value in
    let ps = pairs_of c.args.attrs.now in
    let e : c.args.self.now ≡ f.left ++ f.number ∷ f.right = sym c.self.view_is ∙ ap numbers c.in-Fork.is in
    let here = top ps (length c.args.attrs.now) c.args.self.now f.left f.number f.right e c.requires.within c.requires.rising in
    rw c.deref-in-Greater.ensures (omega (arith, here.right_shorter, c.decreases), (here.right_within, here.right_rising))

pub returns-in-Less : goal.returns-in-Less
returns-in-Less t c =
    let f = c.in-Fork.fork.value in
    let ps = pairs_of c.args.attrs.now in
    let e : c.args.self.now ≡ f.left ++ f.number ∷ f.right = sym c.self.view_is ∙ ap numbers c.in-Fork.is in
    let here = top ps (length c.args.attrs.now) c.args.self.now f.left f.number f.right e c.requires.within c.requires.rising in
    let pair_is : pair_of c.index-attrs-deref.result ≡ pair_at ps f.number =
    pair_of_at c.args.attrs.now c.deref.result.now.number c.index-attrs-deref.result (rw c.deref.ensures here.here) c.index-attrs-deref.is ∙ ap (λ (g : Fork). pair_at ps g.number) c.deref.ensures in
    let order_is : pair_cmp (pair_of c.args.attr.now) (pair_at ps f.number) ≡ Less = ap (pair_cmp (pair_of c.args.attr.now)) (sym pair_is) ∙ sym c.in-Less.ensures in
    c.find.ensures
    ∙ ap (λ (g : Fork). number_at ps (pair_of c.args.attr.now) g.left) c.deref-in-Less.ensures
    ∙ sym (number_left ps (pair_of c.args.attr.now) f.left f.number f.right here.rising order_is)
    ∙ ap (number_at ps (pair_of c.args.attr.now)) (sym e)

pub returns-in-Equal : goal.returns-in-Equal
returns-in-Equal t c =
    let f = c.in-Fork.fork.value in
    let ps = pairs_of c.args.attrs.now in
    let e : c.args.self.now ≡ f.left ++ f.number ∷ f.right = sym c.self.view_is ∙ ap numbers c.in-Fork.is in
    let here = top ps (length c.args.attrs.now) c.args.self.now f.left f.number f.right e c.requires.within c.requires.rising in
    let pair_is : pair_of c.index-attrs-deref.result ≡ pair_at ps f.number =
    pair_of_at c.args.attrs.now c.deref.result.now.number c.index-attrs-deref.result (rw c.deref.ensures here.here) c.index-attrs-deref.is ∙ ap (λ (g : Fork). pair_at ps g.number) c.deref.ensures in
    let order_is : pair_cmp (pair_of c.args.attr.now) (pair_at ps f.number) ≡ Equal = ap (pair_cmp (pair_of c.args.attr.now)) (sym pair_is) ∙ sym c.in-Equal.ensures in
    rw c.deref-in-Equal.ensures
    (sym (number_here ps (pair_of c.args.attr.now) f.left f.number f.right here.rising order_is) ∙ ap (number_at ps (pair_of c.args.attr.now)) (sym e))

pub returns-in-Greater : goal.returns-in-Greater
returns-in-Greater t c =
    let f = c.in-Fork.fork.value in
    let ps = pairs_of c.args.attrs.now in
    let e : c.args.self.now ≡ f.left ++ f.number ∷ f.right = sym c.self.view_is ∙ ap numbers c.in-Fork.is in
    let here = top ps (length c.args.attrs.now) c.args.self.now f.left f.number f.right e c.requires.within c.requires.rising in
    let pair_is : pair_of c.index-attrs-deref.result ≡ pair_at ps f.number =
    pair_of_at c.args.attrs.now c.deref.result.now.number c.index-attrs-deref.result (rw c.deref.ensures here.here) c.index-attrs-deref.is ∙ ap (λ (g : Fork). pair_at ps g.number) c.deref.ensures in
    let order_is : pair_cmp (pair_of c.args.attr.now) (pair_at ps f.number) ≡ Greater = ap (pair_cmp (pair_of c.args.attr.now)) (sym pair_is) ∙ sym c.in-Greater.ensures in
    c.find-in-Greater.ensures
    ∙ ap (λ (g : Fork). number_at ps (pair_of c.args.attr.now) g.right) c.deref-in-Greater.ensures
    ∙ sym (number_right ps (pair_of c.args.attr.now) f.left f.number f.right here.rising order_is)
    ∙ ap (number_at ps (pair_of c.args.attr.now)) (sym e)
