use Rattle.std.proofs.Common.{◌≡◌, ◌+◌, ◌++◌, sym, ap, ◌∙◌, subst, Ok, Err}
use Rattle.std.specs.Prelude.{slice_range}
use Rattle.std.specs.List.{before_first, after_first}
use Rattle.ep_http.specs.Fields.{asked_by}
use Rattle.ep_http.specs.Looking.{IsHeadAt}
use Rattle.ep_http.specs.Parameters.{is_question, parameters}
use Rattle.ep_http.specs.declared.request.Request.{Request}
use Rattle.ep_http.proofs.Whole.{body_refused, head_refused, request_made}
use Rattle.ep_http.proofs.request.read_request.Goals as goal

pub returns-in-Err-clause-refused : goal.returns-in-Err-clause-refused
returns-in-Err-clause-refused g c =
    let read = c.in_ok-head.ensures.reads in
    let bytes = c.read_head.new.bytes.items in
    let fields = c.read_head.new.fields in
    let head = c.in_ok-head.head in
    let h = read.1.0 in
    let seen : IsHeadAt c.deref.result.now fields head h = subst (λ b. IsHeadAt b fields head h) (sym c.deref.ensures.value) read.1.1 in
    let asks : asked_by c.args.limit h ≡ Err c.in-Err.why = sym (c.in-Err.ensures h seen) in
    head_refused _ _ _ _ c.args.limit bytes fields head h c.in-Err.why read.0 read.1.1 asks

pub returns-in-Err-read_body-clause-refused : goal.returns-in-Err-read_body-clause-refused
returns-in-Err-read_body-clause-refused g c =
    let read = c.in_ok-head.ensures.reads in
    let bytes = c.read_head.new.bytes.items in
    let fields = c.read_head.new.fields in
    let head = c.in_ok-head.head in
    let h = read.1.0 in
    let seen : IsHeadAt c.deref.result.now fields head h = subst (λ b. IsHeadAt b fields head h) (sym c.deref.ensures.value) read.1.1 in
    let asks : asked_by c.args.limit h ≡ Ok c.in-Ok.asked = sym (c.in-Ok.ensures h seen) in
    body_refused _ _ _ _ _ _ c.args.limit bytes _ fields head h c.in-Ok.asked c.in-Err-read_body.why read.0 read.1.1 asks c.in_ok-head.ensures.later c.in-Err-read_body.ensures.reads

pub returns-clause-ok : goal.returns-clause-ok
returns-clause-ok g c =
    let read = c.in_ok-head.ensures.reads in
    let bytes = c.read_head.new.bytes.items in
    let more = c.read_body.new.bytes.items in
    let fields = c.read_head.new.fields in
    let head = c.in_ok-head.head in
    let asked = c.in-Ok.asked in
    let h = read.1.0 in
    let seen : IsHeadAt c.deref.result.now fields head h = subst (λ b. IsHeadAt b fields head h) (sym c.deref.ensures.value) read.1.1 in
    let asks : asked_by c.args.limit h ≡ Ok asked = sym (c.in-Ok.ensures h seen) in
    let target : c.of.result.now ≡ h.target = c.of.ensures ∙ (ap (λ b. slice_range b head.path.start head.path.end) c.deref-2.ensures.value ∙ read.1.1.at.path) in
    let first = c.in_ok-request.request.pairs in
    let query : first ≡ parameters (after_first is_question h.target) = ap (λ (q : Request). q.pairs) c.in_ok-request.ensures ∙ ap (λ t. parameters (after_first is_question t)) target in
    let pairs = c.push_parameters.new.pairs in
    let all = c.in_ok-push_parameters.ensures ∙ ap (λ b. first ++ parameters (slice_range b head.len (head.len + asked.length))) c.deref-3.ensures.value in
    let made = ap (λ (q : Request). record { method = q.method; path = q.path; pairs = pairs }) c.in_ok-request.ensures
    ∙ ap (λ t. record { method = asked.method; path = before_first is_question t; pairs = pairs }) target in
    request_made _ _ _ c.args.limit bytes more fields head h asked _ first pairs read.0 read.1.1 asks c.in_default.ensures.reads query all made
