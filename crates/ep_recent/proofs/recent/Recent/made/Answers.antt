use Rattle.std.proofs.Common.{◌≡◌, ◌<◌, length, sym, ap, subst, ◌∙◌, arith}
use Rattle.std.proofs.lemmas.List.{length-map}
use Rattle.ep_recent.specs.Recent.{LastRevs}
use Rattle.ep_recent.specs.Held.{entry}
use Rattle.ep_recent.proofs.Told.{IsMade, index_at, led_held, made_from, made_fits, made_next}
use Rattle.ep_recent.proofs.recent.Recent.made.Goals as goal

pub loop-i-init : goal.loop-i-init
loop-i-init c =
    subst (IsMade c.args.self.now c.args.from) (sym c.in_ok-doc.ensures)
    (made_from c.args.self.now c.args.from c.args.first.now (led_held c.self.inside c.args.self.now c.self.view_is c.self.invariant.led) c.requires.from)

pub apply-requires : goal.apply-requires
apply-requires c =
    let ks = c.self.inside.kept.items in
    let same = ap (λ (k : LastRevs). k.kept) c.self.view_is in
    let all : length c.args.self.now.kept ≡ length ks = ap length (sym same) ∙ length-map ks entry in
    let there = c.requires.there in
    let lt : c.loop-i.i < length ks = omega (arith, all, there) in
    let x = c.index.result.now in
    made_fits c.args.self.now c.loop-i.i x.rev x.before c.loop-i.doc c.loop-i.invariant (index_at ks c.args.self.now.kept c.loop-i.i x same lt c.index.ensures)

pub loop-i-preserved : goal.loop-i-preserved
loop-i-preserved c =
    let ks = c.self.inside.kept.items in
    let same = ap (λ (k : LastRevs). k.kept) c.self.view_is in
    let all : length c.args.self.now.kept ≡ length ks = ap length (sym same) ∙ length-map ks entry in
    let there = c.requires.there in
    let lt : c.loop-i.i < length ks = omega (arith, all, there) in
    let x = c.index.result.now in
    made_next c.args.self.now c.loop-i.i x.rev x.before c.loop-i.doc _ c.loop-i.invariant (index_at ks c.args.self.now.kept c.loop-i.i x same lt c.index.ensures) c.in_ok-doc-2.ensures
