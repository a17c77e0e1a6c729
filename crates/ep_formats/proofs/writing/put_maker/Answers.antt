use Rattle.ep_fields.specs.Bytes.{session, number, text, flag, IsSession, IsNumber, IsText}
use Rattle.ep_formats.proofs.Adding.{maker_added}
use Rattle.ep_formats.proofs.writing.put_maker.Goals as goal

pub returns : goal.returns
returns c =
    let a = c.args in
    maker_added c.put_flag.result a.out.now.items c.put_session.new.out.items c.put_number.new.out.items c.put_text.new.out.items c.put_flag.new.out.items
    (session a.session) (number a.time) (text a.author.now) (flag a.fixed) (IsSession a.session) (IsNumber a.time) (IsText a.author.now)
    c.in_ok-put_session.ensures c.in_ok-put_number.ensures c.in_ok-put_text.ensures c.put_flag.ensures
