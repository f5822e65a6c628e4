-- What a client is told whose bytes are no request.
use Rattle.std.specs.Prelude.{ℕ, List, ◌++◌, codes}

abbrev pub refusal_text : List ℕ
refusal_text = codes "HTTP/1.1 400 Bad Request\r\n" ++ codes "Content-Length: 0\r\n" ++ codes "Connection: close\r\n" ++ codes "\r\n"
