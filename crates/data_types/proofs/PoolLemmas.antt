-- Texts in one block of bytes, where more bytes come.
use Rattle.std.proofs.Common.{◌≡◌, ◌∙◌, ◌≤◌, ◌+◌, ◌++◌, ◌∷◌, [], ℕ, List, length, take, drop, true, refl, sym, ap, ap₂, subst, arith, length-append, length-drop}
use Rattle.std.specs.Str.{is_utf8}
use Rattle.std.proofs.lemmas.List.{drop-append-le, map-append, take-append-le, take_all}
use Rattle.std.proofs.lemmas.List.Elements.{All-head, All-push, All-tail, All-weaker}
use Rattle.std.proofs.Math.Seq.{drop-append_seam}
use Rattle.data_types.specs.Pools.{ArePieces, IsPiece, piece, pieces}
use Rattle.data_types.specs.declared.text_pool.Span.{Span}

piece-more : (bytes more : List ℕ) (span : Span) → span.start + span.len ≤ length bytes → piece (bytes ++ more) span ≡ piece bytes span
piece-more bytes more span within =
    ap (take span.len) (drop-append-le span.start bytes more (omega arith))
    ∙ take-append-le span.len (drop span.start bytes) more (omega (arith, length-drop span.start bytes))

pub pieces-more : (bytes more : List ℕ) (spans : List Span) → ArePieces bytes spans → pieces (bytes ++ more) spans ≡ pieces bytes spans
pieces-more bytes more [] are = refl
pieces-more bytes more (span ∷ spans) are =
    ap₂ ◌∷◌ (piece-more bytes more span (All-head (IsPiece bytes) span spans are).within) (pieces-more bytes more spans (All-tail (IsPiece bytes) span spans are))

pub are-more : (bytes more : List ℕ) (spans : List Span) → ArePieces bytes spans → ArePieces (bytes ++ more) spans
are-more bytes more spans are =
    All-weaker (IsPiece bytes) (IsPiece (bytes ++ more))
    (λ span is. record {
      within = omega (arith, length-append bytes more, is.within);
      text = ap is_utf8 (piece-more bytes more span is.within) ∙ is.text;
    }) spans are

last-piece : (bytes text : List ℕ) (span : Span) → span.start ≡ length bytes → span.len ≡ length text → piece (bytes ++ text) span ≡ text
last-piece bytes text span start len =
    ap (λ n. take span.len (drop n (bytes ++ text))) start
    ∙ ap (take span.len) (drop-append_seam bytes text)
    ∙ take_all span.len text (omega (arith, len))

-- one more text is at the end
module _ (bytes text : List ℕ) (spans : List Span) (span : Span) (start : span.start ≡ length bytes) (len : span.len ≡ length text) (are : ArePieces bytes spans) where
  pub added-piece : pieces (bytes ++ text) (spans ++ span ∷ []) ≡ pieces bytes spans ++ text ∷ []
  added-piece =
      map-append (piece (bytes ++ text)) spans (span ∷ [])
      ∙ ap₂ ◌++◌ (pieces-more bytes text spans are) (ap (λ t. t ∷ []) (last-piece bytes text span start len))

  pub are-added : is_utf8 text ≡ true → ArePieces (bytes ++ text) (spans ++ span ∷ [])
  are-added utf8 =
      All-push (IsPiece (bytes ++ text)) spans span (are-more bytes text spans are)
      (record {
        within = omega (arith, length-append bytes text, start, len);
        text = ap is_utf8 (last-piece bytes text span start len) ∙ utf8;
      })

-- more bytes, and no text
pub kept : (bytes bytes' more : List ℕ) (spans spans' : List Span) (was : List (List ℕ)) → bytes' ≡ bytes ++ more → spans' ≡ spans → ArePieces bytes spans → pieces bytes spans ≡ was → pieces bytes' spans' ≡ was
kept bytes bytes' more spans spans' was grown same are view = ap₂ pieces grown same ∙ pieces-more bytes more spans are ∙ view

module _ (bytes bytes' text : List ℕ) (spans spans' : List Span) (span : Span) (grown : bytes' ≡ bytes ++ text) (one : spans' ≡ spans ++ span ∷ []) (start : span.start ≡ length bytes) (len : span.len ≡ length text) (are : ArePieces bytes spans) where
  pub added : (was : List (List ℕ)) → pieces bytes spans ≡ was → pieces bytes' spans' ≡ was ++ text ∷ []
  added was view = ap₂ pieces grown one ∙ added-piece bytes text spans span start len are ∙ ap (λ ts. ts ++ text ∷ []) view

  pub added-are : is_utf8 text ≡ true → ArePieces bytes' spans'
  added-are utf8 = subst (λ bs. ArePieces bs spans') (sym grown) (subst (ArePieces (bytes ++ text)) (sym one) (are-added bytes text spans span start len are utf8))
