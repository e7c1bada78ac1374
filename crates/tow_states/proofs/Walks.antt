-- An exchange opens, and walks on.
use Rattle.std.proofs.Common.{◌≡◌, ℕ, Bool, List, [], ◌∷◌, ◌++◌, map, Option, refl, sym, ap, ◌∙◌, subst, append_assoc}
use Rattle.std.proofs.lemmas.List.{map-append}
use Rattle.tow_model.specs.declared.request.Request.{Request}
use Rattle.tow_model.specs.declared.content.Content.{Content}
use Rattle.tow_model.specs.declared.account.Call.{Call}
use Rattle.tow_model.specs.declared.account.Verdict.{Verdict}
use Rattle.tow_model.specs.declared.account.Verdict.TheVariants.{Admitted, Refused}
use Rattle.tow_model.specs.Texts.{Text}
use Rattle.tow_message.specs.Stream.{HasRequest}
use Rattle.tow_semantics.specs.Listeners.{entering}
use Rattle.tow_semantics.specs.Pages.{Found, Serve, Redirect, Listing, Forbidden, NotModified, NotFound, BadMethod, found_page}
use Rattle.tow_semantics.specs.Runs.{Entry}
use Rattle.tow_exchange.specs.Exchanges.{ExchangeData, page_given, verdict_given}
use Rattle.tow_exchange.specs.declared.phase.Phase.TheVariants.{AwaitsVerdict, AwaitsPage}
use Rattle.tow_progress.specs.Progress.{Progress, Origin, unfinished}
use Rattle.tow_progress.specs.Steps.{heard, taken}
use Rattle.tow_progress.specs.Accounts.{Tally, called, entered}
use Rattle.tow_progress.proofs.AccountLemmas.{account_is_kept}
use Rattle.tow_course.specs.Course.{Course, heard_in, looked_in, verdicts_in}
use Rattle.tow_course.proofs.Coursing.{course_advances, course_hears, course_looks, course_opens}
use Rattle.tow_states.specs.Known.{Setting, run_in, moment_of, Stands, Shows}
use Rattle.tow_states.specs.Opening.{ExchangeOpens}
use Rattle.tow_states.specs.Walking.{IsWalking, GoesOn, WalkIsKept}
use Rattle.tow_states.proofs.Leavings.{request_stays_inside}
use Rattle.tow_states.proofs.Knowing.{grows, steps_keep, stands_on}

pub exchange_opens : ExchangeOpens
exchange_opens s o c t is q head piped cut request =
    let same : c.piped_in ++ c.left ≡ (c.current ++ head) ++ (piped ++ c.left) =
    ap (λ (l : List ℕ). l ++ c.left) cut ∙ append_assoc head piped c.left
    ∙ sym (ap (λ (l : List ℕ). (l ++ head) ++ (piped ++ c.left)) is.current) in
    record {
      stands = stands_on s o c (taken head piped c) t is.stands ((steps_keep s o c t is.stands).takes head piped cut) refl refl refl;
      exchange = record {
        connection = refl;
        number = refl;
        moment = refl;
        request = subst (λ (l : List ℕ). HasRequest c.peer l q (piped ++ c.left)) same request;
        content = tt;
        course = course_opens s.tree s.files c.number c.request q (moment_of s c);
        verdicts = is.own;
        calls = is.calls;
        lines = is.lines;
        inside = is.inside;
      };
      none = refl;
      unasked = refl;
      put = is.put;
    }

module _ (s : Setting) (o : Origin) (c : Progress) (t : Tally) (e : ExchangeData) (n : Course) (is : IsWalking s o c t e n) where
  advance_step : (new : ExchangeData) → GoesOn s.tree e new → IsWalking s o c t new n
  advance_step new goes =
      let a = goes.advances in
      record {
        stands = is.stands;
        exchange = record {
          connection = goes.connection ∙ is.exchange.connection;
          number = goes.number ∙ is.exchange.number;
          moment = a.moment ∙ is.exchange.moment;
          request = subst (λ (q : Request). HasRequest c.peer (unfinished c) q (c.piped_in ++ c.left)) (sym a.request) is.exchange.request;
          content = subst (λ (x : Option Content). Shows new.request.framing [] x) (sym is.none) tt;
          course = course_advances s.tree s.files e new n a is.exchange.course;
          verdicts = is.exchange.verdicts;
          calls = is.exchange.calls;
          lines = is.exchange.lines;
          inside = (request_stays_inside c.request t.calls).adds e new a.adds is.exchange.inside;
        };
        none = is.none;
        unasked = is.unasked;
        put = is.put;
      }

  -- the calls and the verdicts gain the entry
  made_more : (limit : ℕ) (verdict : Verdict) →
      t.made ++ entered limit c verdict ∷ [] ≡ map (entering c.request) (heard_in limit verdict n).entries
  made_more limit verdict =
      let entry : Entry = record { limit = limit; verdict = verdict } in
      ap (λ (l : List Call). l ++ entered limit c verdict ∷ []) is.exchange.calls
      ∙ sym (map-append (entering c.request) n.entries (entry ∷ []))

  heard_more : (limit : ℕ) (verdict : Verdict) → c.own ++ verdict ∷ [] ≡ verdicts_in (heard_in limit verdict n)
  heard_more limit verdict =
      let entry : Entry = record { limit = limit; verdict = verdict } in
      ap (λ (l : List Verdict). l ++ verdict ∷ []) is.exchange.verdicts
      ∙ sym (map-append (λ (x : Entry). x.verdict) n.entries (entry ∷ []))

  stands_heard : (limit : ℕ) (verdict : Verdict) → Stands s o (heard verdict c) (called (entered limit c verdict) t)
  stands_heard limit verdict =
      let stays = (steps_keep s o c t is.stands).hears verdict in
      record {
        origin = stays.origin ∙ is.stands.origin;
        wire = stays.on_wire;
        account = (account_is_kept s.tree (run_in s) (grows s) c t is.stands.account).enters limit verdict;
        few = is.stands.few;
      }

  hear_step : (limit : ℕ) (verdict : Verdict) → e.phase ≡ AwaitsVerdict limit
      → IsWalking s o (heard verdict c) (called (entered limit c verdict) t) (verdict_given limit verdict e) (heard_in limit verdict n)
  hear_step limit Admitted waits = record {
    stands = stands_heard limit Admitted;
    exchange = record {
      connection = is.exchange.connection;
      number = is.exchange.number;
      moment = is.exchange.moment;
      request = is.exchange.request;
      content = is.exchange.content;
      course = course_hears s.tree s.files e n limit Admitted waits is.exchange.course;
      verdicts = heard_more limit Admitted;
      calls = made_more limit Admitted;
      lines = is.exchange.lines;
      inside = (request_stays_inside c.request t.calls).hears e limit Admitted is.exchange.inside;
    };
    none = is.none;
    unasked = is.unasked;
    put = is.put;
  }
  hear_step limit Refused waits = record {
    stands = stands_heard limit Refused;
    exchange = record {
      connection = is.exchange.connection;
      number = is.exchange.number;
      moment = is.exchange.moment;
      request = is.exchange.request;
      content = is.exchange.content;
      course = course_hears s.tree s.files e n limit Refused waits is.exchange.course;
      verdicts = heard_more limit Refused;
      calls = made_more limit Refused;
      lines = is.exchange.lines;
      inside = (request_stays_inside c.request t.calls).hears e limit Refused is.exchange.inside;
    };
    none = is.none;
    unasked = is.unasked;
    put = is.put;
  }

  -- a page leaves all of the exchange but its record and its phase
  record Looks (new : ExchangeData) : Type 0 where
    connection : new.connection ≡ e.connection
    number : new.number ≡ e.number
    request : new.request ≡ e.request
    moment : new.moment ≡ e.moment

  looks : (p : Found) → Looks (page_given p e)
  looks (Serve path len second) = record { connection = refl; number = refl; request = refl; moment = refl }
  looks (Redirect to) = record { connection = refl; number = refl; request = refl; moment = refl }
  looks (Listing bytes) = record { connection = refl; number = refl; request = refl; moment = refl }
  looks Forbidden = record { connection = refl; number = refl; request = refl; moment = refl }
  looks (NotModified second) = record { connection = refl; number = refl; request = refl; moment = refl }
  looks NotFound = record { connection = refl; number = refl; request = refl; moment = refl }
  looks BadMethod = record { connection = refl; number = refl; request = refl; moment = refl }

  look_step : (location : Text) (listing : Bool) → e.phase ≡ AwaitsPage location listing
      → IsWalking s o c t (page_given (found_page s.files location listing e.request e.stand.state) e) (looked_in n)
  look_step location listing waits =
      let new = page_given (found_page s.files location listing e.request e.stand.state) e in
      let same = looks (found_page s.files location listing e.request e.stand.state) in
      record {
        stands = is.stands;
        exchange = record {
          connection = same.connection ∙ is.exchange.connection;
          number = same.number ∙ is.exchange.number;
          moment = same.moment ∙ is.exchange.moment;
          request = subst (λ (q : Request). HasRequest c.peer (unfinished c) q (c.piped_in ++ c.left)) (sym same.request) is.exchange.request;
          content = subst (λ (x : Option Content). Shows new.request.framing [] x) (sym is.none) tt;
          course = course_looks s.tree s.files e n location listing waits is.exchange.course;
          verdicts = is.exchange.verdicts;
          calls = is.exchange.calls;
          lines = is.exchange.lines;
          inside = (request_stays_inside c.request t.calls).looks e (found_page s.files location listing e.request e.stand.state) is.exchange.inside;
        };
        none = is.none;
        unasked = is.unasked;
        put = is.put;
      }

pub walk_is_kept : WalkIsKept
walk_is_kept s o c t e n is = record {
  advances = advance_step s o c t e n is;
  hears = hear_step s o c t e n is;
  looks = look_step s o c t e n is;
}
