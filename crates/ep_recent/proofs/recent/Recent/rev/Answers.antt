use Rattle.std.proofs.Common.{◌≡◌, ◌-◌, ◌≤◌, ℕ, Some, slice_get, sym, ap, subst, arith}
use Rattle.ep_recent.specs.Recent.{LastRevs}
use Rattle.ep_recent.proofs.Told.{found_is}
use Rattle.ep_recent.proofs.recent.Recent.rev.Goals as goal

pub returns-clause-is : goal.returns-clause-is
returns-clause-is c vs h =
    let k = c.args.self.now in
    let x = c.in_ok-kept.kept.now in
    let same : c.self.inside.first ≡ k.first = ap (λ (l : LastRevs). l.first) c.self.view_is in
    let le : k.first ≤ c.args.i = omega (arith, same) in
    found_is k vs c.args.i x.rev x.before le (subst (λ (n : ℕ). slice_get k.kept (c.args.i - n) ≡ Some (x.rev, x.before)) same (sym c.in_ok-kept.ensures)) h

pub returns-clause-kept : goal.returns-clause-kept
returns-clause-kept c =
    let k = c.args.self.now in
    let x = c.in_ok-kept.kept.now in
    let same : c.self.inside.first ≡ k.first = ap (λ (l : LastRevs). l.first) c.self.view_is in
    (x.before, subst (λ (n : ℕ). slice_get k.kept (c.args.i - n) ≡ Some (x.rev, x.before)) same (sym c.in_ok-kept.ensures))
