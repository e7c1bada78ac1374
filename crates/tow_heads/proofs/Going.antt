-- From what the first bytes of an input begin with to what all of it is read as.
use Rattle.std.proofs.Common.{◌≡◌, ℕ, ◌<◌, ◌≤◌, ◌⊎◌, inl, inr, Bool, IsTrue, List, [], ◌++◌, length, take, sym, ◌∙◌, subst, arith, length-append, length-take}
use Rattle.httparse.specs.Grammar.{RequestHead, print_blank}
use Rattle.tow_model.specs.declared.request.Request.{Request}
use Rattle.tow_message.specs.Heads.{HasHead, IsRefusedBy, refusal}
use Rattle.tow_message.specs.Stream.{refused, IsNoRequest, ReadsStream}
use Rattle.tow_message.proofs.StreamLemmas.{request_split}
use Rattle.tow_request.specs.NextHead.{IsHopeless}
use Rattle.tow_heads.specs.NextRequests.{GoesOnWith}
use Rattle.tow_heads.specs.declared.requests.NextRequest.TheVariants as answer
use Rattle.tow_heads.proofs.Fronts.{IsServed, request_before, refused_before, hopeless_before}
use Rattle.tow_heads.proofs.Served.{refused_in_itself}

-- what has a part with a byte has one
part_is_some : (before part after : List ℕ) → 0 < length part → 0 < length (before ++ (part ++ after))
part_is_some before part after some = omega (arith, some, length-append before (part ++ after), length-append part after)

-- a head has a byte at least, which is of its method
head_is_some : (bytes : List ℕ) (h : RequestHead) → HasHead bytes h [] → 0 < length bytes
head_is_some bytes h has =
    subst (λ (l : List ℕ). 0 < length l) (sym (has.reads.1 ∙ request_split h [])) (part_is_some (print_blank h.blank) h.method _ has.reads.0.method.0)

-- a request that is served
pub served_goes : (peer : ℕ) (bytes left : List ℕ) (used : ℕ) (q : Request) → used ≤ length bytes → IsServed (take used bytes) peer q
    → GoesOnWith peer bytes left (answer.Request q used)
served_goes peer bytes left used q fits is = (
  omega (arith, head_is_some (take used bytes) is.0.head is.0.whole, length-take used bytes),
  fits,
  request_before bytes left used peer q is,
)

-- a head that is refused in itself, or bytes that will be none
pub refused_goes : (peer : ℕ) (bytes left : List ℕ) (ended : Bool) (status : ℕ)
    → IsRefusedBy refusal bytes status ⊎ ((status ≡ 400) × IsNoRequest bytes × IsHopeless bytes ended) → (IsTrue ended → left ≡ [])
    → ReadsStream peer (bytes ++ left) (refused status)
refused_goes peer bytes left ended status (inl is) drained = inl (refused_before bytes left status (refused_in_itself bytes status is))
refused_goes peer bytes left ended status (inr (is, none, hopeless)) drained = inr (hopeless_before bytes left ended none hopeless drained, is)
