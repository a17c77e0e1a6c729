-- The tokens of a client's first message, in the order of its members.
use Rattle.std.proofs.Common.{◌≡◌, ℕ, List, [], ◌∷◌, ◌++◌, Option, Some, None, codes, append_assoc, refl, ap, ◌∙◌}
use Rattle.json.specs.Token.{Token, begin_object, end_object}
use Rattle.serde_json.specs.Data.{string}
use Rattle.ep_units.specs.Text.{Text}
use Rattle.ep_wire_words.specs.declared.client.Resume.{Resume}
use Rattle.ep_wire_words.specs.declared.client.ClientMsg.TheVariants as msg
use Rattle.ep_wire_words.specs.declared.member.Member.TheVariants as member
use Rattle.ep_wire_words.specs.ClientJson.{client_json, sessions_member}
use Rattle.ep_wire_words.specs.Json.{text}
use Rattle.ep_wire.specs.Tokens.{field, fields, reconnect, resumed, said}

abbrev IsReady : Text → Text → List Text → Option Resume → Type 0
IsReady pad token ids resume =
    (begin_object ∷ []) ++ (fields (resumed resume) ++ (field member.PadId (text pad) ++ (fields (reconnect resume) ++ (fields (sessions_member ids) ++ (field member.Token (text token) ++ (field member.Type (string (codes "CLIENT_READY")) ++ end_object ∷ []))))))
    ≡ said (client_json (msg.Ready pad token ids resume))

ready_is : (pad token : Text) (ids : List Text) (resume : Option Resume) → IsReady pad token ids resume
ready_is pad token [] None = refl
ready_is pad token (first ∷ rest) None = refl
ready_is pad token ids (Some r) = by ids r.birth r.author
  where
    rev : ℕ
    rev = r.rev

    by : (xs : List Text) (birth : Option ℕ) (author : Option Text) → IsReady pad token xs (Some (record { rev = rev; birth = birth; author = author }))
    by [] None None = refl
    by [] None (Some x) = refl
    by [] (Some n) None = refl
    by [] (Some n) (Some x) = refl
    by (first ∷ rest) None None = refl
    by (first ∷ rest) None (Some x) = refl
    by (first ∷ rest) (Some n) None = refl
    by (first ∷ rest) (Some n) (Some x) = refl

joined : (t a b c d e f g h : List Token) → ((((((((t ++ a) ++ b) ++ c) ++ d) ++ e) ++ f) ++ g) ++ h) ≡ t ++ (a ++ (b ++ (c ++ (d ++ (e ++ (f ++ (g ++ h)))))))
joined t a b c d e f g h =
    append_assoc ((((((t ++ a) ++ b) ++ c) ++ d) ++ e) ++ f) g h
    ∙ append_assoc (((((t ++ a) ++ b) ++ c) ++ d) ++ e) f (g ++ h)
    ∙ append_assoc ((((t ++ a) ++ b) ++ c) ++ d) e (f ++ (g ++ h))
    ∙ append_assoc (((t ++ a) ++ b) ++ c) d (e ++ (f ++ (g ++ h)))
    ∙ append_assoc ((t ++ a) ++ b) c (d ++ (e ++ (f ++ (g ++ h))))
    ∙ append_assoc (t ++ a) b (c ++ (d ++ (e ++ (f ++ (g ++ h)))))
    ∙ append_assoc t a (b ++ (c ++ (d ++ (e ++ (f ++ (g ++ h))))))

-- what is written piece by piece
pub ready_said : (t : List Token) (pad token : Text) (ids : List Text) (resume : Option Resume)
    → (((((((t ++ begin_object ∷ []) ++ fields (resumed resume)) ++ field member.PadId (text pad)) ++ fields (reconnect resume)) ++ fields (sessions_member ids)) ++ field member.Token (text token)) ++ field member.Type (string (codes "CLIENT_READY"))) ++ end_object ∷ []
    ≡ t ++ said (client_json (msg.Ready pad token ids resume))
ready_said t pad token ids resume = joined t _ _ _ _ _ _ _ _ ∙ ap (λ ts. t ++ ts) (ready_is pad token ids resume)
