use Rattle.std.proofs.Common.{◌≡◌, ℕ, List, Ok, refl, sym, ap, ◌∙◌, subst}
use Rattle.items.specs.declared.kind_name.KindName.{KindName}
use Rattle.items.specs.declared.kind_name.KindName.TheVariants.{Article, Span, FieldSet}
use Rattle.packed.specs.declared.header.Header.{Header}
use Rattle.packed.specs.Headers.{any_kind, header_of}
use Rattle.translate.specs.Translation.{translated, layout_of, wording_of, text_by_kind, text_of}
use Rattle.translate.specs.Trips.{PacksAgain, LogComesBack}
use Rattle.translate.proofs.RoundTrips.{log_back}
use Rattle.translate.proofs.to_text.log_to_text.Goals as goal

-- by the kind that the log tells
back : (name : KindName) (bytes : List ℕ) (room : ℕ) (h : Header) → Ok h ≡ header_of any_kind bytes → h.kind ≡ name → PacksAgain name (layout_of name) (wording_of name) bytes (translated (layout_of name) (wording_of name) bytes room) → LogComesBack bytes (text_of bytes room)
back name bytes room h told is again =
    subst (LogComesBack bytes) (sym (ap (λ k. translated (layout_of k) (wording_of k) bytes room) is) ∙ ap (text_by_kind bytes room) told) (log_back name bytes _ again)

pub returns-in-Article-clause-comes_back : goal.returns-in-Article-clause-comes_back
returns-in-Article-clause-comes_back c = back Article c.args.bytes.now _ c.in_ok-read_header.field-0 c.in_ok-read_header.ensures c.in-Article.is (c.translate.ensures.again Article (record { code = refl; word = refl }))

pub returns-in-Span-clause-comes_back : goal.returns-in-Span-clause-comes_back
returns-in-Span-clause-comes_back c = back Span c.args.bytes.now _ c.in_ok-read_header.field-0 c.in_ok-read_header.ensures c.in-Span.is (c.translate-in-Span.ensures.again Span (record { code = refl; word = refl }))

pub returns-in-FieldSet-clause-comes_back : goal.returns-in-FieldSet-clause-comes_back
returns-in-FieldSet-clause-comes_back c = back FieldSet c.args.bytes.now _ c.in_ok-read_header.field-0 c.in_ok-read_header.ensures c.in-FieldSet.is (c.translate-in-FieldSet.ensures.again FieldSet (record { code = refl; word = refl }))
