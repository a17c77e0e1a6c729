use Rattle.std.proofs.Common.{◌%◌, ◌++◌, ◌∷◌, [], ap, sym, ◌∙◌, arith}
use Rattle.std.specs.Vec.{vec_len, vec_capacity}
use Rattle.ep_revs.specs.Revisions.{Revisions}
use Rattle.ep_revs.specs.declared.revs.Revs.TheInside as revs
use Rattle.ep_revs.proofs.Docs.{keeps-frame, keeps-past}
use Rattle.ep_revs.proofs.Nears.{near_pushed}
use Rattle.ep_revs.proofs.revs.Revs.push.Goals as goal
use Rattle.ep_revs.proofs.revs.Revs.push.Goals.{then-len-eq0, else-len-eq0}

pub invariant_of-self : goal.invariant_of-self
invariant_of-self c =
    let is = c.self.inside in
    let mid = c.if-len-eq0.self-inside in
    let new = c.push_reserved-2.new.self in
    let old = c.args.self.now.revs in
    let same = ap (λ (r : Revisions). r.revs) c.self.view_is in
    let room = ap (λ (r : Revisions). r.room) c.self.view_is in
    let some = c.requires.room in
    let hold = c.self.invariant in
    let revs-room = hold.revs in
    let frames-room = hold.frames in
    let len = c.push_reserved-2.ensures.len in
    let cap = c.push_reserved-2.ensures.capacity in
    let near = c.keep_near.new.near in
    elim c.if-len-eq0.branch [
      | then-len-eq0 w ↦
          let l = ap (λ (x : revs.Inside). vec_len x.revs) w.self-inside-is in
          let k = ap (λ (x : revs.Inside). vec_capacity x.revs) w.self-inside-is in
          let m = ap (λ (x : revs.Inside). vec_capacity x.frames) w.self-inside-is in
          let n = ap (λ (x : revs.Inside). x.room) w.self-inside-is in
          let o = w.push_reserved.ensures.capacity in
          let same-revs = ap (λ (x : revs.Inside). x.revs.items) w.self-inside-is in
          let same-near = ap (λ (x : revs.Inside). x.near.items) w.self-inside-is in
          let same-past = ap (λ (x : revs.Inside). x.past) w.self-inside-is in
          record {
            kept = keeps-frame is.revs.items old mid.revs.items new.items is.frames.items w.push_reserved.new.self.items mid.frames.items is.past c.replace-last.new.dest c.args.rev c.args.doc
                hold.kept same c.requires.fits c.requires.doc (ap (λ n. n % 100) (sym is.revs.ok.0 ∙ sym c.len.ensures) ∙ w.if-len-eq0.true)
                w.push_reserved.ensures.items same-revs (ap (λ (x : revs.Inside). x.frames.items) w.self-inside-is)
                (c.replace-last.ensures.after ∙ w.past-is) c.push_reserved-2.ensures.items;
            revs = omega (arith, l, k, n, room, some, revs-room, len, cap);
            frames = omega (arith, l, m, n, o, room, some, frames-room, len);
            near = near_pushed is.revs.items new.items c.args.rev is.past c.replace-last.result is.near.items mid.near.items near.items
                hold.kept.head (c.replace-last.ensures.value ∙ same-past) hold.near same-near
                (c.keep_near.ensures is.revs.items (sym is.revs.ok.0 ∙ sym l ∙ sym c.len-2.ensures))
                (c.push_reserved-2.ensures.items ∙ ap (λ us. us ++ c.args.rev ∷ []) same-revs);
          }
      | else-len-eq0 w ↦
          let l = ap (λ (x : revs.Inside). vec_len x.revs) w.self-inside-is in
          let k = ap (λ (x : revs.Inside). vec_capacity x.revs) w.self-inside-is in
          let m = ap (λ (x : revs.Inside). vec_capacity x.frames) w.self-inside-is in
          let n = ap (λ (x : revs.Inside). x.room) w.self-inside-is in
          let same-revs = ap (λ (x : revs.Inside). x.revs.items) w.self-inside-is in
          let same-near = ap (λ (x : revs.Inside). x.near.items) w.self-inside-is in
          let same-past = ap (λ (x : revs.Inside). x.past) w.self-inside-is in
          record {
            kept = keeps-past is.revs.items old mid.revs.items new.items is.frames.items mid.frames.items is.past c.replace-last.new.dest c.args.rev c.args.doc
                hold.kept same c.requires.fits c.requires.doc (λ z. w.if-len-eq0.false (ap (λ n. n % 100) (c.len.ensures ∙ is.revs.ok.0) ∙ z))
                same-revs (ap (λ (x : revs.Inside). x.frames.items) w.self-inside-is)
                (c.replace-last.ensures.after ∙ w.past-is) c.push_reserved-2.ensures.items;
            revs = omega (arith, l, k, n, room, some, revs-room, len, cap);
            frames = omega (arith, l, m, n, room, some, frames-room, len);
            near = near_pushed is.revs.items new.items c.args.rev is.past c.replace-last.result is.near.items mid.near.items near.items
                hold.kept.head (c.replace-last.ensures.value ∙ same-past) hold.near same-near
                (c.keep_near.ensures is.revs.items (sym is.revs.ok.0 ∙ sym l ∙ sym c.len-2.ensures))
                (c.push_reserved-2.ensures.items ∙ ap (λ us. us ++ c.args.rev ∷ []) same-revs);
          }
    ]
