mod StillClosed
