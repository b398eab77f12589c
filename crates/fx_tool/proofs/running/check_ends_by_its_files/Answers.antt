use Rattle.fx_tool.proofs.CheckCauses.{accepted, bad_filter, bad_code, bad_certificate, passing, refused}
use Rattle.fx_tool.proofs.running.check_ends_by_its_files.Goals as goal

pub returns-clause-bad_filter : goal.returns-clause-bad_filter
returns-clause-bad_filter c = bad_filter

pub returns-clause-bad_code : goal.returns-clause-bad_code
returns-clause-bad_code c = bad_code

pub returns-clause-bad_certificate : goal.returns-clause-bad_certificate
returns-clause-bad_certificate c = bad_certificate c.certificate_is_read_exactly.ensures

pub returns-clause-refused : goal.returns-clause-refused
returns-clause-refused c = refused c.certificate_is_read_exactly.ensures c.none_fails_where_all_hold.ensures

pub returns-clause-accepted : goal.returns-clause-accepted
returns-clause-accepted c = passing c.certificate_is_read_exactly.ensures c.none_fails_where_all_hold.ensures

pub returns-clause-done : goal.returns-clause-done
returns-clause-done c = accepted c.certificate_is_read_exactly.ensures c.none_fails_where_all_hold.ensures
