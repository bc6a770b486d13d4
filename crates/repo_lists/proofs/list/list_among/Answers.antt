use Rattle.std.proofs.Common.{◌≡◌, ℕ, List, Result, Err, refl, sym, subst, rules}
use Rattle.gb_store.specs.Files.{files_of}
use Rattle.repo_state.specs.declared.stop.ReadStop.{ReadStop}
use Rattle.repo_state.proofs.PeopleLemmas.{reads_people}
use Rattle.repo_lists.specs.Lists.{ListAnswers}
use Rattle.repo_lists.proofs.ListLemmas.{identities_then, people_read, people_refused, rows_listed, rows_read, rows_refused, rows_wrote}
use Rattle.repo_lists.proofs.list.list_among.Goals as goal

pub returns-in_err-people-clause-answers : goal.returns-in_err-people-clause-answers
returns-in_err-people-clause-answers g c = λ tells listed.
    let old = g.S.Store.history c.args.disk.now in
    let new = g.S.Store.history c.people_among.new.disk in
    let is : c.from_residual.result ≡ Err c.in_err-people.field-0.0 = search rules in
    subst (λ (r : Result (List ℕ) ReadStop). ListAnswers c.args.folder.now c.args.layout c.args.query.now old new r) (sym is)
    (people_refused c.args.folder.now c.args.layout c.args.query.now old new c.in_err-people.field-0.0 (c.in_err-people.ensures.answers tells listed))

pub returns-in_err-people-clause-reads : goal.returns-in_err-people-clause-reads
returns-in_err-people-clause-reads g c = λ tells listed.
    let files = files_of (g.S.Store.history c.args.disk.now) in
    let before = g.S.Store.object_reads c.args.disk.now in
    let after = g.S.Store.object_reads c.people_among.new.disk in
    people_read files c.args.folder.now before after (reads_people files c.args.folder.now c.args.identities.now listed before after c.people_among.ensures.reads)

pub returns-in_err-rows-clause-answers : goal.returns-in_err-rows-clause-answers
returns-in_err-rows-clause-answers g c = λ tells listed.
    let folder = c.args.folder.now in
    let old = g.S.Store.history c.args.disk.now in
    let mid = g.S.Store.history c.people_among.new.disk in
    let new = g.S.Store.history c.rows_among.new.disk in
    let same = c.in_ok-people.ensures.unwritten tells in
    let now = identities_then folder old mid c.args.identities.now c.args.identities.now same refl listed in
    let is : c.from_residual-in_err-rows.result ≡ Err c.in_err-rows.field-0.0 = search rules in
    subst (λ (r : Result (List ℕ) ReadStop). ListAnswers folder c.args.layout c.args.query.now old new r) (sym is)
    (rows_refused folder c.args.layout c.args.query.now old new mid same c.in_err-rows.field-0.0 (c.in_err-rows.ensures.answers tells now))

pub returns-in_err-rows-clause-wrote : goal.returns-in_err-rows-clause-wrote
returns-in_err-rows-clause-wrote g c = λ tells listed.
    let folder = c.args.folder.now in
    let old = g.S.Store.history c.args.disk.now in
    let mid = g.S.Store.history c.people_among.new.disk in
    let same = c.in_ok-people.ensures.unwritten tells in
    let now = identities_then folder old mid c.args.identities.now c.args.identities.now same refl listed in
    rows_wrote folder c.args.layout c.args.query.now old (g.S.Store.history c.rows_among.new.disk) mid same (c.in_err-rows.ensures.wrote tells now)

pub returns-in_err-rows-clause-reads : goal.returns-in_err-rows-clause-reads
returns-in_err-rows-clause-reads g c = λ tells listed.
    let folder = c.args.folder.now in
    let old = g.S.Store.history c.args.disk.now in
    let mid = g.S.Store.history c.people_among.new.disk in
    let same = c.in_ok-people.ensures.unwritten tells in
    let now = identities_then folder old mid c.args.identities.now c.args.identities.now same refl listed in
    let before = g.S.Store.object_reads c.args.disk.now in
    let at = g.S.Store.object_reads c.people_among.new.disk in
    rows_read folder c.args.layout c.args.query.now old (g.S.Store.history c.rows_among.new.disk) mid same before at (g.S.Store.object_reads c.rows_among.new.disk)
    (reads_people (files_of old) folder c.args.identities.now listed before at c.people_among.ensures.reads) (c.in_err-rows.ensures.reads tells now)

pub returns-in_err-text_of-clause-wrote : goal.returns-in_err-text_of-clause-wrote
returns-in_err-text_of-clause-wrote g c = λ tells listed.
    let folder = c.args.folder.now in
    let old = g.S.Store.history c.args.disk.now in
    let mid = g.S.Store.history c.people_among.new.disk in
    let same = c.in_ok-people.ensures.unwritten tells in
    let now = identities_then folder old mid c.args.identities.now c.args.identities.now same refl listed in
    rows_wrote folder c.args.layout c.args.query.now old (g.S.Store.history c.rows_among.new.disk) mid same (c.in_ok-rows.ensures.wrote tells now)

pub returns-in_err-text_of-clause-reads : goal.returns-in_err-text_of-clause-reads
returns-in_err-text_of-clause-reads g c = λ tells listed.
    let folder = c.args.folder.now in
    let old = g.S.Store.history c.args.disk.now in
    let mid = g.S.Store.history c.people_among.new.disk in
    let same = c.in_ok-people.ensures.unwritten tells in
    let now = identities_then folder old mid c.args.identities.now c.args.identities.now same refl listed in
    let before = g.S.Store.object_reads c.args.disk.now in
    let at = g.S.Store.object_reads c.people_among.new.disk in
    rows_read folder c.args.layout c.args.query.now old (g.S.Store.history c.rows_among.new.disk) mid same before at (g.S.Store.object_reads c.rows_among.new.disk)
    (reads_people (files_of old) folder c.args.identities.now listed before at c.people_among.ensures.reads) (c.in_ok-rows.ensures.reads tells now)

pub returns-clause-answers : goal.returns-clause-answers
returns-clause-answers g c = λ tells listed.
    let folder = c.args.folder.now in
    let old = g.S.Store.history c.args.disk.now in
    let mid = g.S.Store.history c.people_among.new.disk in
    let new = g.S.Store.history c.rows_among.new.disk in
    let same = c.in_ok-people.ensures.unwritten tells in
    let now = identities_then folder old mid c.args.identities.now c.args.identities.now same refl listed in
    rows_listed folder c.args.layout c.args.query.now old new mid same c.in_ok-people.people c.as_slice-2.result.now c.in_ok-rows.rows c.as_slice.result.now c.in_ok-text_of.field-0 c.as_slice-2.ensures c.as_slice.ensures
    (c.in_ok-people.ensures.answers tells listed) (c.in_ok-rows.ensures.answers tells now) c.in_ok-text_of.ensures

pub returns-clause-wrote : goal.returns-clause-wrote
returns-clause-wrote g c = λ tells listed.
    let folder = c.args.folder.now in
    let old = g.S.Store.history c.args.disk.now in
    let mid = g.S.Store.history c.people_among.new.disk in
    let same = c.in_ok-people.ensures.unwritten tells in
    let now = identities_then folder old mid c.args.identities.now c.args.identities.now same refl listed in
    rows_wrote folder c.args.layout c.args.query.now old (g.S.Store.history c.rows_among.new.disk) mid same (c.in_ok-rows.ensures.wrote tells now)

pub returns-clause-reads : goal.returns-clause-reads
returns-clause-reads g c = λ tells listed.
    let folder = c.args.folder.now in
    let old = g.S.Store.history c.args.disk.now in
    let mid = g.S.Store.history c.people_among.new.disk in
    let same = c.in_ok-people.ensures.unwritten tells in
    let now = identities_then folder old mid c.args.identities.now c.args.identities.now same refl listed in
    let before = g.S.Store.object_reads c.args.disk.now in
    let at = g.S.Store.object_reads c.people_among.new.disk in
    rows_read folder c.args.layout c.args.query.now old (g.S.Store.history c.rows_among.new.disk) mid same before at (g.S.Store.object_reads c.rows_among.new.disk)
    (reads_people (files_of old) folder c.args.identities.now listed before at c.people_among.ensures.reads) (c.in_ok-rows.ensures.reads tells now)
