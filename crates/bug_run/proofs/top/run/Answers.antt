use Rattle.std.proofs.Common.{◌≡◌, ℕ, List, map, IsOk, rules, refl, sym, subst}
use Rattle.std.specs.Prelude.{string_bytes}
use Rattle.gb_store.specs.Files.{files_of}
use Rattle.gb_store.proofs.MomentLemmas.{WroteBy-none}
use Rattle.bug_run.specs.Printed.{HasLines, Printed}
use Rattle.bug_run.specs.Refusals.{usage_text}
use Rattle.bug_run.specs.Exchanges.{ReadsExchange, ReadsMerge}
use Rattle.repo_lists.specs.Lists.{ReadsList}
use Rattle.bug_run.specs.Reads.{ReadsCommand, ReadsRun}
use Rattle.bug_run.specs.Run.{AskedAnswers, RunWrites, call_of}
use Rattle.bug_run.specs.declared.status.Status.TheVariants as status
use Rattle.words.specs.Words.{asked_of}
use Rattle.words.specs.declared.words.Asked.{Asked}
use Rattle.words.specs.declared.words.Asked.TheVariants as asked
use Rattle.bug_run.proofs.HeadlineLemmas.{run_headline}
use Rattle.bug_run.proofs.LookLemmas.{reads_less}
use Rattle.bug_run.proofs.ReadLemmas.{command_narrower, exchange_narrower, done_was_ok, lines_were_ok}
use Rattle.bug_run.proofs.RunLemmas.{run_stays_sound, run_wrote}
use Rattle.bug_run.proofs.top.run.Goals as goal

pub returns-in-Request-clause-answers : goal.returns-in-Request-clause-answers
returns-in-Request-clause-answers g c =
    let asks = asked_of (map string_bytes c.args.words.now) in
    let call = call_of g.S.Store.tells g.K.Sink.tells g.K.Sink.takes_memory asks c.args.moment in
    let is : asks ≡ asked.Request c.in-Request.request = search rules in
    subst (λ (asks : Asked). AskedAnswers asks call (g.S.Store.history c.args.disk.now) (g.S.Store.history c.perform-outcome.new.disk)
    (g.K.Sink.written c.args.out.now) (g.K.Sink.written c.tell.new.out) c.tell.result) (sym is)
    (c.perform-outcome.result, c.perform-outcome.ensures.answers, c.tell.ensures.answers)

pub returns-in-Request-clause-headline : goal.returns-in-Request-clause-headline
returns-in-Request-clause-headline g c = λ tells prints own.
    run_headline (call_of g.S.Store.tells g.K.Sink.tells g.K.Sink.takes_memory (asked_of (map string_bytes c.args.words.now)) c.args.moment) (g.S.Store.history c.args.disk.now)
    (g.S.Store.history c.perform-outcome.new.disk) (g.K.Sink.written c.args.out.now) (g.K.Sink.written c.tell.new.out) c.tell.result tells prints (returns-in-Request-clause-answers g c) own

pub returns-in-Request-clause-wrote : goal.returns-in-Request-clause-wrote
returns-in-Request-clause-wrote g c = record {
  wrote = λ tells.
      run_wrote (call_of g.S.Store.tells g.K.Sink.tells g.K.Sink.takes_memory (asked_of (map string_bytes c.args.words.now)) c.args.moment) (g.S.Store.history c.args.disk.now)
      (g.S.Store.history c.perform-outcome.new.disk) (g.K.Sink.written c.args.out.now) (g.K.Sink.written c.tell.new.out) c.tell.result tells
      (returns-in-Request-clause-answers g c);
}

pub returns-in-Request-clause-sound : goal.returns-in-Request-clause-sound
returns-in-Request-clause-sound g c = λ tells.
    run_stays_sound (call_of g.S.Store.tells g.K.Sink.tells g.K.Sink.takes_memory (asked_of (map string_bytes c.args.words.now)) c.args.moment)
    (g.S.Store.history c.args.disk.now) (g.S.Store.history c.perform-outcome.new.disk) ((returns-in-Request-clause-wrote g c).wrote tells)

pub returns-in-Request-clause-reads : goal.returns-in-Request-clause-reads
returns-in-Request-clause-reads g c = λ tells.
    let request = c.in-Request.request in
    let is : asked_of (map string_bytes c.args.words.now) ≡ asked.Request request = search rules in
    let files = files_of (g.S.Store.history c.args.disk.now) in
    let before = g.S.Store.object_reads c.args.disk.now in
    let after = g.S.Store.object_reads c.perform-outcome.new.disk in
    let was_ok = done_was_ok g.K.Sink.tells g.K.Sink.takes_memory (g.K.Sink.written c.args.out.now) (g.K.Sink.written c.tell.new.out) c.perform-outcome.result c.tell.result c.tell.ensures.answers in
    let had_lines = lines_were_ok g.K.Sink.tells g.K.Sink.takes_memory (g.K.Sink.written c.args.out.now) (g.K.Sink.written c.tell.new.out) c.perform-outcome.result c.tell.result c.tell.ensures.answers in
    subst (λ (asks : Asked). ReadsRun asks c.args.moment.now (g.S.Store.history c.args.disk.now) (c.tell.result ≡ status.Done) (HasLines c.tell.result) before after) (sym is)
    (reads_less (IsOk c.perform-outcome.result) (HasLines c.tell.result) (ReadsCommand files request.folder request.command (IsOk c.perform-outcome.result) before after)
    (ReadsCommand files request.folder request.command (c.tell.result ≡ status.Done) before after) before after had_lines
    (command_narrower files request.folder request.command (IsOk c.perform-outcome.result) (c.tell.result ≡ status.Done) before after was_ok) (c.perform-outcome.ensures.reads tells))

pub returns-in-Exchange-clause-answers : goal.returns-in-Exchange-clause-answers
returns-in-Exchange-clause-answers g c =
    let asks = asked_of (map string_bytes c.args.words.now) in
    let call = call_of g.S.Store.tells g.K.Sink.tells g.K.Sink.takes_memory asks c.args.moment in
    let is : asks ≡ asked.Exchange c.in-Exchange.request = search rules in
    subst (λ (asks : Asked). AskedAnswers asks call (g.S.Store.history c.args.disk.now) (g.S.Store.history c.exchange-outcome.new.disk)
    (g.K.Sink.written c.args.out.now) (g.K.Sink.written c.tell-in-Exchange.new.out) c.tell-in-Exchange.result) (sym is)
    (c.exchange-outcome.result, c.exchange-outcome.ensures.answers, c.tell-in-Exchange.ensures.answers)

pub returns-in-Exchange-clause-headline : goal.returns-in-Exchange-clause-headline
returns-in-Exchange-clause-headline g c = λ tells prints own.
    run_headline (call_of g.S.Store.tells g.K.Sink.tells g.K.Sink.takes_memory (asked_of (map string_bytes c.args.words.now)) c.args.moment) (g.S.Store.history c.args.disk.now)
    (g.S.Store.history c.exchange-outcome.new.disk) (g.K.Sink.written c.args.out.now) (g.K.Sink.written c.tell-in-Exchange.new.out) c.tell-in-Exchange.result tells prints (returns-in-Exchange-clause-answers g c) own

pub returns-in-Exchange-clause-wrote : goal.returns-in-Exchange-clause-wrote
returns-in-Exchange-clause-wrote g c = record {
  wrote = λ tells.
      run_wrote (call_of g.S.Store.tells g.K.Sink.tells g.K.Sink.takes_memory (asked_of (map string_bytes c.args.words.now)) c.args.moment) (g.S.Store.history c.args.disk.now)
      (g.S.Store.history c.exchange-outcome.new.disk) (g.K.Sink.written c.args.out.now) (g.K.Sink.written c.tell-in-Exchange.new.out) c.tell-in-Exchange.result tells
      (returns-in-Exchange-clause-answers g c);
}

pub returns-in-Exchange-clause-sound : goal.returns-in-Exchange-clause-sound
returns-in-Exchange-clause-sound g c = λ tells.
    run_stays_sound (call_of g.S.Store.tells g.K.Sink.tells g.K.Sink.takes_memory (asked_of (map string_bytes c.args.words.now)) c.args.moment)
    (g.S.Store.history c.args.disk.now) (g.S.Store.history c.exchange-outcome.new.disk) ((returns-in-Exchange-clause-wrote g c).wrote tells)

pub returns-in-Exchange-clause-reads : goal.returns-in-Exchange-clause-reads
returns-in-Exchange-clause-reads g c = λ tells.
    let request = c.in-Exchange.request in
    let is : asked_of (map string_bytes c.args.words.now) ≡ asked.Exchange request = search rules in
    let before = g.S.Store.object_reads c.args.disk.now in
    let after = g.S.Store.object_reads c.exchange-outcome.new.disk in
    let was_ok = lines_were_ok g.K.Sink.tells g.K.Sink.takes_memory (g.K.Sink.written c.args.out.now) (g.K.Sink.written c.tell-in-Exchange.new.out) c.exchange-outcome.result c.tell-in-Exchange.result c.tell-in-Exchange.ensures.answers in
    subst (λ (asks : Asked). ReadsRun asks c.args.moment.now (g.S.Store.history c.args.disk.now) (c.tell-in-Exchange.result ≡ status.Done) (HasLines c.tell-in-Exchange.result) before after) (sym is)
    (reads_less (IsOk c.exchange-outcome.result) (HasLines c.tell-in-Exchange.result) (ReadsExchange request.command request.pair c.args.moment.now (g.S.Store.history c.args.disk.now) (IsOk c.exchange-outcome.result) before after)
    (ReadsExchange request.command request.pair c.args.moment.now (g.S.Store.history c.args.disk.now) (HasLines c.tell-in-Exchange.result) before after) before after was_ok
    (exchange_narrower request.command request.pair c.args.moment.now (g.S.Store.history c.args.disk.now) (IsOk c.exchange-outcome.result) (HasLines c.tell-in-Exchange.result) before after was_ok) (c.exchange-outcome.ensures.reads tells))

pub returns-in-Merge-clause-answers : goal.returns-in-Merge-clause-answers
returns-in-Merge-clause-answers g c =
    let asks = asked_of (map string_bytes c.args.words.now) in
    let call = call_of g.S.Store.tells g.K.Sink.tells g.K.Sink.takes_memory asks c.args.moment in
    let is : asks ≡ asked.Merge c.in-Merge.request = search rules in
    subst (λ (asks : Asked). AskedAnswers asks call (g.S.Store.history c.args.disk.now) (g.S.Store.history c.merge_tracked-outcome.new.disk)
    (g.K.Sink.written c.args.out.now) (g.K.Sink.written c.tell-in-Merge.new.out) c.tell-in-Merge.result) (sym is)
    (c.merge_tracked-outcome.result, c.merge_tracked-outcome.ensures.answers, c.tell-in-Merge.ensures.answers)

pub returns-in-Merge-clause-headline : goal.returns-in-Merge-clause-headline
returns-in-Merge-clause-headline g c = λ tells prints own.
    run_headline (call_of g.S.Store.tells g.K.Sink.tells g.K.Sink.takes_memory (asked_of (map string_bytes c.args.words.now)) c.args.moment) (g.S.Store.history c.args.disk.now)
    (g.S.Store.history c.merge_tracked-outcome.new.disk) (g.K.Sink.written c.args.out.now) (g.K.Sink.written c.tell-in-Merge.new.out) c.tell-in-Merge.result tells prints (returns-in-Merge-clause-answers g c) own

pub returns-in-Merge-clause-wrote : goal.returns-in-Merge-clause-wrote
returns-in-Merge-clause-wrote g c = record {
  wrote = λ tells.
      run_wrote (call_of g.S.Store.tells g.K.Sink.tells g.K.Sink.takes_memory (asked_of (map string_bytes c.args.words.now)) c.args.moment) (g.S.Store.history c.args.disk.now)
      (g.S.Store.history c.merge_tracked-outcome.new.disk) (g.K.Sink.written c.args.out.now) (g.K.Sink.written c.tell-in-Merge.new.out) c.tell-in-Merge.result tells
      (returns-in-Merge-clause-answers g c);
}

pub returns-in-Merge-clause-sound : goal.returns-in-Merge-clause-sound
returns-in-Merge-clause-sound g c = λ tells.
    run_stays_sound (call_of g.S.Store.tells g.K.Sink.tells g.K.Sink.takes_memory (asked_of (map string_bytes c.args.words.now)) c.args.moment)
    (g.S.Store.history c.args.disk.now) (g.S.Store.history c.merge_tracked-outcome.new.disk) ((returns-in-Merge-clause-wrote g c).wrote tells)

pub returns-in-Merge-clause-reads : goal.returns-in-Merge-clause-reads
returns-in-Merge-clause-reads g c = λ tells.
    let is : asked_of (map string_bytes c.args.words.now) ≡ asked.Merge c.in-Merge.request = search rules in
    let before = g.S.Store.object_reads c.args.disk.now in
    let after = g.S.Store.object_reads c.merge_tracked-outcome.new.disk in
    let was_ok = lines_were_ok g.K.Sink.tells g.K.Sink.takes_memory (g.K.Sink.written c.args.out.now) (g.K.Sink.written c.tell-in-Merge.new.out) c.merge_tracked-outcome.result c.tell-in-Merge.result c.tell-in-Merge.ensures.answers in
    let Reads = ReadsMerge c.in-Merge.request c.args.moment.now (g.S.Store.history c.args.disk.now) before after in
    subst (λ (asks : Asked). ReadsRun asks c.args.moment.now (g.S.Store.history c.args.disk.now) (c.tell-in-Merge.result ≡ status.Done) (HasLines c.tell-in-Merge.result) before after) (sym is)
    (reads_less (IsOk c.merge_tracked-outcome.result) (HasLines c.tell-in-Merge.result) Reads Reads before after was_ok (λ reads. reads) (c.merge_tracked-outcome.ensures.reads tells))

pub returns-in-List-clause-answers : goal.returns-in-List-clause-answers
returns-in-List-clause-answers g c =
    let asks = asked_of (map string_bytes c.args.words.now) in
    let call = call_of g.S.Store.tells g.K.Sink.tells g.K.Sink.takes_memory asks c.args.moment in
    let is : asks ≡ asked.List c.in-List.request = search rules in
    subst (λ (asks : Asked). AskedAnswers asks call (g.S.Store.history c.args.disk.now) (g.S.Store.history c.list-outcome.new.disk)
    (g.K.Sink.written c.args.out.now) (g.K.Sink.written c.tell-in-List.new.out) c.tell-in-List.result) (sym is)
    (c.list-outcome.result, c.list-outcome.ensures.answers, c.tell-in-List.ensures.answers)

pub returns-in-List-clause-headline : goal.returns-in-List-clause-headline
returns-in-List-clause-headline g c = λ tells prints own.
    run_headline (call_of g.S.Store.tells g.K.Sink.tells g.K.Sink.takes_memory (asked_of (map string_bytes c.args.words.now)) c.args.moment) (g.S.Store.history c.args.disk.now)
    (g.S.Store.history c.list-outcome.new.disk) (g.K.Sink.written c.args.out.now) (g.K.Sink.written c.tell-in-List.new.out) c.tell-in-List.result tells prints (returns-in-List-clause-answers g c) own

pub returns-in-List-clause-wrote : goal.returns-in-List-clause-wrote
returns-in-List-clause-wrote g c = record {
  wrote = λ tells.
      run_wrote (call_of g.S.Store.tells g.K.Sink.tells g.K.Sink.takes_memory (asked_of (map string_bytes c.args.words.now)) c.args.moment) (g.S.Store.history c.args.disk.now)
      (g.S.Store.history c.list-outcome.new.disk) (g.K.Sink.written c.args.out.now) (g.K.Sink.written c.tell-in-List.new.out) c.tell-in-List.result tells
      (returns-in-List-clause-answers g c);
}

pub returns-in-List-clause-sound : goal.returns-in-List-clause-sound
returns-in-List-clause-sound g c = λ tells.
    run_stays_sound (call_of g.S.Store.tells g.K.Sink.tells g.K.Sink.takes_memory (asked_of (map string_bytes c.args.words.now)) c.args.moment)
    (g.S.Store.history c.args.disk.now) (g.S.Store.history c.list-outcome.new.disk) ((returns-in-List-clause-wrote g c).wrote tells)

pub returns-in-List-clause-reads : goal.returns-in-List-clause-reads
returns-in-List-clause-reads g c = λ tells.
    let is : asked_of (map string_bytes c.args.words.now) ≡ asked.List c.in-List.request = search rules in
    let files = files_of (g.S.Store.history c.args.disk.now) in
    let before = g.S.Store.object_reads c.args.disk.now in
    let after = g.S.Store.object_reads c.list-outcome.new.disk in
    let was_ok = lines_were_ok g.K.Sink.tells g.K.Sink.takes_memory (g.K.Sink.written c.args.out.now) (g.K.Sink.written c.tell-in-List.new.out) c.list-outcome.result c.tell-in-List.result c.tell-in-List.ensures.answers in
    let Reads = ReadsList files c.in-List.request.folder before after in
    subst (λ (asks : Asked). ReadsRun asks c.args.moment.now (g.S.Store.history c.args.disk.now) (c.tell-in-List.result ≡ status.Done) (HasLines c.tell-in-List.result) before after) (sym is)
    (reads_less (IsOk c.list-outcome.result) (HasLines c.tell-in-List.result) Reads Reads before after was_ok (λ reads. reads) (c.list-outcome.ensures.reads tells))

pub returns-in-Refused-clause-answers : goal.returns-in-Refused-clause-answers
returns-in-Refused-clause-answers g c =
    let asks = asked_of (map string_bytes c.args.words.now) in
    let call = call_of g.S.Store.tells g.K.Sink.tells g.K.Sink.takes_memory asks c.args.moment in
    let old = g.S.Store.history c.args.disk.now in
    let is : asks ≡ asked.Refused c.in-Refused.bad = search rules in
    subst (λ (asks : Asked). AskedAnswers asks call old old (g.K.Sink.written c.args.out.now) (g.K.Sink.written c.print_refusal.new.out) c.print_refusal.result) (sym is)
    ((λ tells. refl), c.print_refusal.ensures.answers)

pub returns-in-Refused-clause-headline : goal.returns-in-Refused-clause-headline
returns-in-Refused-clause-headline g c = λ tells prints own.
    run_headline (call_of g.S.Store.tells g.K.Sink.tells g.K.Sink.takes_memory (asked_of (map string_bytes c.args.words.now)) c.args.moment) (g.S.Store.history c.args.disk.now)
    (g.S.Store.history c.args.disk.now) (g.K.Sink.written c.args.out.now) (g.K.Sink.written c.print_refusal.new.out) c.print_refusal.result tells prints (returns-in-Refused-clause-answers g c) own

pub returns-in-Refused-clause-sound : goal.returns-in-Refused-clause-sound
returns-in-Refused-clause-sound g c = λ tells.
    let call = call_of g.S.Store.tells g.K.Sink.tells g.K.Sink.takes_memory (asked_of (map string_bytes c.args.words.now)) c.args.moment in
    let old = g.S.Store.history c.args.disk.now in
    run_stays_sound call old old (WroteBy-none (RunWrites call) old old refl)

pub returns-in-Nothing-clause-answers : goal.returns-in-Nothing-clause-answers
returns-in-Nothing-clause-answers g c =
    let asks = asked_of (map string_bytes c.args.words.now) in
    let call = call_of g.S.Store.tells g.K.Sink.tells g.K.Sink.takes_memory asks c.args.moment in
    let old = g.S.Store.history c.args.disk.now in
    let before = g.K.Sink.written c.args.out.now in
    let after = g.K.Sink.written c.print.new.out in
    let is : asks ≡ asked.Nothing = search rules in
    let text : c.as_bytes.result.now ≡ usage_text = search rules in
    subst (λ (asks : Asked). AskedAnswers asks call old old before after c.print.result) (sym is)
    ((λ tells. refl), subst (λ (t : List ℕ). Printed g.K.Sink.tells g.K.Sink.takes_memory t status.Usage before after c.print.result) text c.print.ensures.printed)

pub returns-in-Nothing-clause-headline : goal.returns-in-Nothing-clause-headline
returns-in-Nothing-clause-headline g c = λ tells prints own.
    run_headline (call_of g.S.Store.tells g.K.Sink.tells g.K.Sink.takes_memory (asked_of (map string_bytes c.args.words.now)) c.args.moment) (g.S.Store.history c.args.disk.now)
    (g.S.Store.history c.args.disk.now) (g.K.Sink.written c.args.out.now) (g.K.Sink.written c.print.new.out) c.print.result tells prints (returns-in-Nothing-clause-answers g c) own

pub returns-in-Nothing-clause-sound : goal.returns-in-Nothing-clause-sound
returns-in-Nothing-clause-sound g c = λ tells.
    let call = call_of g.S.Store.tells g.K.Sink.tells g.K.Sink.takes_memory (asked_of (map string_bytes c.args.words.now)) c.args.moment in
    let old = g.S.Store.history c.args.disk.now in
    run_stays_sound call old old (WroteBy-none (RunWrites call) old old refl)
