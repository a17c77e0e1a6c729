use Rattle.std.proofs.Common.{◌∙◌, ◌+◌, ◌<◌, ◌^◌, length, ap, subst, arith}
use Rattle.ep_cs.specs.Doc.{text_of}
use Rattle.ep_cs.specs.Edit.{apply}
use Rattle.ep_cs.specs.Draft.{blank}
use Rattle.ep_cs.specs.Change.{bank_of}
use Rattle.ep_cs.specs.Spelling.{new_len}
use Rattle.ep_follow.specs.Follows.{is_a}
use Rattle.ep_follow.specs.Following.{UnderWay}
use Rattle.ep_follow.specs.Writing.{said}
use Rattle.ep_follow.proofs.Whole.{IsWalked, started, under_way, walked_follows}
use Rattle.ep_follow.proofs.Writers.{said_settled, settled_goes, unsaid_follower}
use Rattle.ep_follow.proofs.following.written.Goals as goal

pub walk-requires : goal.walk-requires
walk-requires c =
    let a = c.args.a.now in
    let b = c.args.b.now in
    let room : new_len a.edit + length (bank_of b.edit) < 2 ^ 32 = omega (arith, c.if-len-room.false, c.new_len-room.ensures, c.len.ensures, ap length c.bank.ensures, c.new-left.ensures.normal.new) in
    let made = text_of (apply a.edit c.requires.0) in (
      made,
      settled_goes made c.in_ok-builder.builder c.new-writer.result c.new-left.result c.new-right.result c.new-writer.ensures
          (started made a b c.in_ok-builder.builder c.new-left.result c.new-right.result (c.in_ok-builder.ensures ∙ ap blank c.new_len.ensures) c.new-left.ensures.left c.new-right.ensures.left
          (under_way a b c.new-left.ensures.normal c.new-right.ensures.normal c.requires.0 c.requires.1 c.requires.2 room)),
    )

pub returns : goal.returns
returns c = λ doc fa fb.
    let a = c.args.a.now in
    let b = c.args.b.now in
    let made = text_of (apply a.edit doc) in
    let begun = c.in_ok-builder.builder in
    let begins = c.in_ok-builder.ensures ∙ ap blank c.new_len.ensures in
    let room : new_len a.edit + length (bank_of b.edit) < 2 ^ 32 = omega (arith, c.if-len-room.false, c.new_len-room.ensures, c.len.ensures, ap length c.bank.ensures, c.new-left.ensures.normal.new) in
    let same = ap said c.new-writer.ensures ∙ said_settled begun in
    let w : IsWalked (is_a c.args.first) a b (said c.new-writer.result) (said c.walk.new.out) c.new-left.result c.new-right.result c.walk.new.a c.walk.new.b = record {
      first_normal = c.new-left.ensures.normal;
      second_normal = c.new-right.ensures.normal;
      begins = same ∙ begins;
      first = c.new-left.ensures.left;
      second = c.new-right.ensures.left;
      room = room;
      same = c.in_ok-walk.ensures.same;
      done = c.in_ok-walk.ensures.done;
      go = λ made u. (c.in_ok-walk.ensures.go made (settled_goes made begun c.new-writer.result c.new-left.result c.new-right.result c.new-writer.ensures (subst (λ d. UnderWay made d c.new-left.result c.new-right.result) same u))).way;
    } in
    let gone = c.in_ok-walk.ensures.go made (settled_goes made begun c.new-writer.result c.new-left.result c.new-right.result c.new-writer.ensures
    (started made a b begun c.new-left.result c.new-right.result begins c.new-left.ensures.left c.new-right.ensures.left (under_way a b c.new-left.ensures.normal c.new-right.ensures.normal doc fa fb room))) in
    unsaid_follower (is_a c.args.first) a b doc made c.walk.new.out c.walk.new.a c.walk.new.b gone
    (walked_follows (is_a c.args.first) a b (said c.new-writer.result) (said c.walk.new.out) c.new-left.result c.new-right.result c.walk.new.a c.walk.new.b w doc fa fb)
