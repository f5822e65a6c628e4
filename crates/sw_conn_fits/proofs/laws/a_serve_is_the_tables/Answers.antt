use Rattle.sw_conn_fits.proofs.Conn.{served_is}
use Rattle.sw_conn_fits.proofs.laws.a_serve_is_the_tables.Goals as goal

pub returns : goal.returns
returns g c = λ t pieces written n x l d wrote step cut f m. served_is g.L.Link.write_gives t pieces written n x l d wrote step cut f m
